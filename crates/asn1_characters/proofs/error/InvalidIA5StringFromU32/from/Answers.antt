use Rattle.std.proofs.Common.{rules}
use Rattle.asn1_characters.proofs.error.InvalidIA5StringFromU32.from.Goals as goal

pub returns : goal.returns
returns c = search rules

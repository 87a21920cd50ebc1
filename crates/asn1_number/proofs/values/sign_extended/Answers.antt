use Rattle.std.proofs.Common.{rules}
use Rattle.asn1_number.proofs.values.sign_extended.Goals as goal

pub returns : goal.returns
returns c = search rules

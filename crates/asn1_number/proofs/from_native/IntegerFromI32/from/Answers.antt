use Rattle.std.proofs.Common.{rules}
use Rattle.asn1_number.proofs.from_native.IntegerFromI32.from.Goals as goal

pub returns : goal.returns
returns c = search rules

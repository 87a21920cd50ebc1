use Rattle.std.proofs.Common.{rules}
use Rattle.asn1_integer.proofs.native.AnyIntegerType.checked_add.Goals as goal

pub returns : goal.returns
returns c = search rules

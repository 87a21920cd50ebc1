use Rattle.std.proofs.Common.{rules}
use Rattle.asn1_integer.proofs.integer.IntegerIntegerType.try_from_i128.Goals as goal

pub returns : goal.returns
returns c = search rules

use Rattle.std.proofs.Common.{rules}
use Rattle.asn1_integer.proofs.integer.IntegerIntegerType.to_integer.Goals as goal

pub returns-clause-value : goal.returns-clause-value
returns-clause-value c = search rules

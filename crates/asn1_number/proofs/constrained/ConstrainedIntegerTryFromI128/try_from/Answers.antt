use Rattle.std.proofs.Common.{rules}
use Rattle.asn1_number.proofs.constrained.ConstrainedIntegerTryFromI128.try_from.Goals as goal

pub returns-else-from-number : goal.returns-else-from-number
returns-else-from-number c = search rules

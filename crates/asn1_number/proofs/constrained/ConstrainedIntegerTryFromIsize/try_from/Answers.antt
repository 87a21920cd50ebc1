use Rattle.std.proofs.Common.{rules}
use Rattle.asn1_number.proofs.constrained.ConstrainedIntegerTryFromIsize.try_from.Goals as goal

pub returns : goal.returns
returns c = search rules

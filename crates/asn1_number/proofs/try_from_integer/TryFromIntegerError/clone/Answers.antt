use Rattle.std.proofs.Common.{rules}
use Rattle.asn1_number.proofs.try_from_integer.TryFromIntegerError.clone.Goals as goal

pub returns-clause-value : goal.returns-clause-value
returns-clause-value c = search rules

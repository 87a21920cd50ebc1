use Rattle.std.proofs.Common.{rules}
use Rattle.asn1_number.proofs.try_from_integer.U64TryFromInteger.try_from.Goals as goal

pub returns : goal.returns
returns c = search rules

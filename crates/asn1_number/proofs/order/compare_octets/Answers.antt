use Rattle.std.proofs.Common.{rules}
use Rattle.asn1_number.proofs.order.compare_octets.Goals as goal

pub returns-in-true-true : goal.returns-in-true-true
returns-in-true-true c = search rules

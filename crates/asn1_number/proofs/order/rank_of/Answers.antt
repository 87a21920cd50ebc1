use Rattle.std.proofs.Common.{rules}
use Rattle.asn1_number.proofs.order.rank_of.Goals as goal

pub returns-in-Less : goal.returns-in-Less
returns-in-Less c = search rules

use Rattle.std.proofs.Common.{rules}
use Rattle.asn1_bits.proofs.target.Target.or_eight.Goals as goal

pub returns-clause-turn : goal.returns-clause-turn
returns-clause-turn c = search rules

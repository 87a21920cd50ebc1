use Rattle.std.proofs.Common.{rules}
use Rattle.asn1_bits.proofs.target.Target.set_word.Goals as goal

pub returns-clause-turn : goal.returns-clause-turn
returns-clause-turn c = search rules

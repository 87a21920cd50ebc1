use Rattle.std.proofs.Common.{arith}
use Rattle.asn1_alphabets.proofs.AscendingLemmas.{non_decreasing}
use Rattle.asn1_alphabets.proofs.permitted_set.is_ascending.Goals as goal

pub returns-clause-ascends : goal.returns-clause-ascends
returns-clause-ascends c = λ e. non_decreasing c.args.set.now (λ k h. c.loop-i.invariant k (omega arith))

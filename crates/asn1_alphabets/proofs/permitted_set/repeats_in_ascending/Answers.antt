use Rattle.std.proofs.Common.{arith}
use Rattle.asn1_alphabets.proofs.AscendingLemmas.{neighbours_differ}
use Rattle.asn1_alphabets.proofs.permitted_set.repeats_in_ascending.Goals as goal

pub returns : goal.returns
returns c = neighbours_differ c.args.set.now c.requires (λ k lt. c.loop-i.invariant k (omega arith))

use Rattle.std.proofs.Common.{◌≡◌, drop}
use Rattle.asn1_alphabets.proofs.RepeatLemmas.{has_repeat}
use Rattle.asn1_alphabets.proofs.permitted_set.repeats_in.Given as goal

abbrev pub invariant-loop-i : goal.invariant-loop-i
invariant-loop-i l = has_repeat l.set ≡ has_repeat (drop l.i l.set)

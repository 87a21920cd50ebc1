use Rattle.std.proofs.Common.{◌-◌}
use Rattle.std.specs.Prelude.{⊤}
use Rattle.asn1_x690_decode.proofs.explanation.element_before.Given as goal

abbrev pub invariant-loop-at : goal.invariant-loop-at
invariant-loop-at l = ⊤

abbrev pub decreases-loop-at : goal.decreases-loop-at
decreases-loop-at l = l.from - l.at

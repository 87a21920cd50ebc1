use Rattle.std.proofs.Common.{◌≡◌, ℕ, ℤ, ◌<◌, Some}
use Rattle.std.specs.Prelude.{slice_get}
use Rattle.asn1_x690_leaves.specs.Values.{IsValue}
use Rattle.asn1_x690_leaves.proofs.enumerations.index_in.Given as goal

abbrev pub invariant-loop-i : goal.invariant-loop-i
invariant-loop-i l = (z : ℤ) → IsValue l.value z → (k : ℕ) → k < l.i → slice_get l.numbers k ≡ Some z → ⊥

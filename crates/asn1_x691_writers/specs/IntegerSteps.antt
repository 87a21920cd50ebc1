-- What follows for INTEGER.
use Rattle.std.proofs.Common.{◌≡◌, ℕ, ℤ, pos, negsuc, ◌+◌, ◌-◌, ◌^◌, ◌<◌, ◌≤◌, List, [], ◌∷◌, Bool, true, false, length, refl, ap, inl, inr, arith}
use Rattle.std.specs.Prelude.{◌+ℤ◌, ◌<ℤ◌}
use Rattle.std.proofs.lemmas.Int.{ints}
use Rattle.asn1_schema.specs.declared.misfit.MisfitKind.TheVariants.{NoEncoding}
use Rattle.asn1_schema.specs.Pieces.{Integer, Parts}
use Rattle.asn1_schema.specs.Encodings.{anywhere, permitted, cases, constant, invalid}
use Rattle.asn1_schema.specs.TypeEncodings.{TypeEncoding, leaf}
use Rattle.asn1_x691.specs.declared.fault.FaultKind.{FaultKind}
use Rattle.asn1_x691.specs.declared.fault.FaultKind.TheVariants.{InRoot}
use Rattle.asn1_x691.specs.Fields.{constrained, semi_constrained, unconstrained}
use Rattle.asn1_x691.specs.Strings.{bit}
use Rattle.asn1_x691.specs.Leaves.{from_least, IsOutside, IsAddedInteger, integer_between, integer_at_least, extensible_integer}
use Rattle.asn1_x691.specs.Laws.RangeLaws.{constrained_within}
use Rattle.asn1_x691_writers.specs.Written.{IsWritten}
use Rattle.asn1_x691_writers.specs.FieldSteps.{turn_constant}
use Rattle.asn1_x691_writers.specs.LeafSteps.{leaf_written, leaf_none, bit_written}

module _ (aligned : Bool) (node : ℕ) (least : ℤ) where
  -- a number above the range
  pub above_range : (range d : ℕ) (z : ℤ) → z ≡ (least +ℤ pos d) → range < d → (at : ℕ) (rest : Parts)
      → (integer_between aligned node least range at).misfit (Integer z ∷ rest)
      (record { node = node; left = length (Integer z ∷ rest); kind = NoEncoding })
  above_range range d z e many =
      leaf_none (constrained aligned range node) (from_least least) node (Integer z) d (ap Integer e)
      (λ at p. let few = constrained_within aligned range node at d p.list p.encoded in omega (arith, few, many))

  pub between_written : (range d : ℕ) (z : ℤ) (was now : List ℕ) (old new : ℕ) → z ≡ (least +ℤ pos d)
      → IsWritten aligned (constrained aligned range node) d was old now new
      → IsWritten aligned (λ at. (integer_between aligned node least range at).encoding) (Integer z ∷ []) was old now new
  between_written range d z was now old new e a =
      leaf_written (constrained aligned range node) (from_least least) node aligned d (Integer z) was now old new (ap Integer e) a

  pub at_least_written : (d : ℕ) (z : ℤ) (was now : List ℕ) (old new : ℕ) → z ≡ (least +ℤ pos d)
      → IsWritten aligned (semi_constrained aligned node) d was old now new
      → IsWritten aligned (λ at. (integer_at_least aligned node least at).encoding) (Integer z ∷ []) was old now new
  at_least_written d z was now old new e a =
      leaf_written (semi_constrained aligned node) (from_least least) node aligned d (Integer z) was now old new (ap Integer e) a

-- ---- after an extension bit

module _ (aligned : Bool) (node : ℕ) (Root Added : ℤ → Type 0) (root : ℕ → TypeEncoding FaultKind) (z : ℤ) (was mid now : List ℕ) (old at new : ℕ) where
  pub root_written : IsWritten aligned (anywhere (bit node)) false was old mid at
      → IsWritten aligned (λ n. (root n).encoding) (Integer z ∷ []) mid at now new
      → IsWritten aligned (λ n. (extensible_integer aligned node Root Added root n).encoding) (Integer z ∷ []) was old now new
  root_written a b =
      bit_written node (IsAddedInteger Added) root (leaf (permitted Added Root InRoot node (unconstrained aligned node)) Integer node)
      (Integer z) aligned false was mid now old at new a b

  pub added_written : IsWritten aligned (anywhere (bit node)) true was old mid at → Added z
      → IsWritten aligned (unconstrained aligned node) z mid at now new
      → IsWritten aligned (λ n. (extensible_integer aligned node Root Added root n).encoding) (Integer z ∷ []) was old now new
  added_written a added b =
      bit_written node (IsAddedInteger Added) root (leaf (permitted Added Root InRoot node (unconstrained aligned node)) Integer node)
      (Integer z) aligned true was mid now old at new a
      (leaf_written (permitted Added Root InRoot node (unconstrained aligned node)) Integer node aligned z (Integer z) mid now at new refl
      (turn_constant aligned mid now at new (unconstrained aligned node) (λ x y. y)
      (λ x. anywhere (cases (Added x) (constant x) (Root x) (invalid InRoot node))) z z b (λ p. inl (added, (refl, refl)))))

-- a number above the range is outside
pub outside_above : (least z : ℤ) (range d : ℕ) → z ≡ (least +ℤ pos d) → range < d → IsOutside least range z
outside_above least z range d e many = inr (omega (arith, ints, e, many))

-- a number that 128 bits do not hold is above each range
pub far_above : (least : ℤ) (range u : ℕ) → (least +ℤ pos range) <ℤ pos (2 ^ 127) → 2 ^ 127 ≤ u
    → (d : ℕ) × (pos u ≡ (least +ℤ pos d)) × (range < d)
far_above (pos a) range u fits far = (u - a, omega (arith, ints, fits, far), omega (arith, ints, fits, far))
far_above (negsuc a) range u fits far = (u + (a + 1), omega (arith, ints, fits, far), omega (arith, ints, fits, far))

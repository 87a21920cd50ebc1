-- Which strings have no encoding.
use Rattle.std.proofs.Common.{◌≡◌, ℕ, ◌+◌, ◌*◌, List, Bool, true, false, length, refl, ◌∙◌, ap, inl, inr}
use Rattle.std.specs.Prelude.{◌⊎◌}
use Rattle.asn1_schema.specs.declared.tables.Length.{Length}
use Rattle.asn1_schema.specs.declared.tables.Length.TheVariants.{AtLeast, Between}
use Rattle.asn1_schema.specs.Encodings.{Encoding, CanEncode, anywhere, cases, constant, invalid}
use Rattle.asn1_schema.specs.Fields.{raw_bits}
use Rattle.asn1_schema.specs.Laws.OneEncodingLaws.{only_constant}
use Rattle.asn1_schema.specs.Laws.PermittedLaws.{permitted_is, permitted_of}
use Rattle.asn1_x691.specs.declared.fault.FaultKind.{FaultKind}
use Rattle.asn1_x691.specs.declared.fault.FaultKind.TheVariants.{Short, BelowLeast, NotTrimmed}
use Rattle.asn1_x691.specs.Fragments.{most_fragments, octets}
use Rattle.asn1_x691.specs.Strings.{IsOfRoot, IsAddedSize, units_of, string_of}
use Rattle.asn1_x691.specs.Leaves.{AreTrimmed, bits_by}
use Rattle.asn1_x691_writers.specs.Written.{IsWritten}
use Rattle.asn1_x691_writers.specs.FieldSteps.{turn_constant}
use Rattle.asn1_x691.specs.Laws.FragmentLaws.{all_held}
use Rattle.asn1_x691.specs.Laws.OneEncodingLaws.{inner}
use Rattle.asn1_x691.specs.Laws.StringLaws.{string_is_not_added}

module _ (aligned : Bool) (unit node : ℕ) where
  units_size : (least range n at : ℕ) (x k : List Bool) → (units_of aligned unit least range node n at).encodes x k → length x ≡ unit * n
  units_size least range n at x k (inl p) = ap length p.1.1 ∙ p.1.0
  units_size least range n at x k (inr p) =
      let q = inner aligned node at (raw_bits (unit * n) Short node) x k p.1 in
      ap length q.1.1 ∙ q.1.0

  -- a string is whole units
  pub whole_units : (size : Length) (at : ℕ) (x k : List Bool) → (string_of most_fragments aligned unit size node at).encodes x k
      → (n : ℕ) × (length x ≡ unit * n)
  whole_units (AtLeast least) at x k p =
      let g = only_constant _ _ p.value.1 p.after BelowLeast node p.rest p.second in
      (p.value.0, ap length (p.is ∙ g.1) ∙ (all_held aligned unit node most_fragments at p.value p.front p.first).size)
  whole_units (Between least range) at x k p =
      (least + p.value, ap length p.is ∙ units_size least range (least + p.value) (at + length p.front) p.after p.rest p.second)

  -- of a size that is none of the root it has no encoding in the root
  pub none_of_root : (apart : (m n : ℕ) → unit * m ≡ unit * n → m ≡ n) (size : Length) (n at : ℕ) (x : List Bool) → length x ≡ unit * n
      → IsAddedSize size n → CanEncode (string_of most_fragments aligned unit size node at).encodes x → ⊥
  none_of_root apart size n at x e added p = string_is_not_added most_fragments aligned unit node apart size at x p.list p.encoded (n, e, added)

pub root_or_added : (size : Length) (n : ℕ) (b : Bool) → (b ≡ true → IsOfRoot size n) → (b ≡ false → IsAddedSize size n)
    → IsOfRoot size n ⊎ IsAddedSize size n
root_or_added size n true f g = inl (f refl)
root_or_added size n false f g = inr (g refl)

-- ---- bits that have names, or have none

module _ (aligned : Bool) (node : ℕ) (size : Length) (A : ℕ → Encoding FaultKind (List Bool)) (list : List Bool) where
  pub named_written : (names : Bool) (was now : List ℕ) (old new : ℕ) → (names ≡ true → AreTrimmed size list)
      → IsWritten aligned A list was old now new → IsWritten aligned (bits_by aligned node names size A) list was old now new
  named_written false was now old new is a = a
  named_written true was now old new is a =
      turn_constant aligned was now old new A (λ x y. y)
      (λ x. anywhere (cases (AreTrimmed size x) (constant x) (AreTrimmed size x → ⊥) (invalid NotTrimmed node))) list list a
      (λ p. inl (is refl, (refl, refl)))

  pub named_none : (names : Bool) (at : ℕ) → (names ≡ true) × (AreTrimmed size list → ⊥)
      → CanEncode (bits_by aligned node names size A at).encodes list → ⊥
  named_none false at q p = let e : false ≡ true = q.0 in absurd cc
  named_none true at q p = q.1 (permitted_is (AreTrimmed size) (λ bits. ¬ (AreTrimmed size bits)) NotTrimmed node A at list p.list p.encoded)

  pub unnamed_none : (names : Bool) (at : ℕ) → (CanEncode (A at).encodes list → ⊥)
      → CanEncode (bits_by aligned node names size A at).encodes list → ⊥
  unnamed_none false at f p = f p
  unnamed_none true at f p =
      let q = permitted_of (AreTrimmed size) (λ bits. ¬ (AreTrimmed size bits)) NotTrimmed node A at list p.list p.encoded in
      f (record { list = q.0; encoded = q.1 })

-- ---- octets after their number

pub whole_octets : (aligned : Bool) (node at : ℕ) (x k : List Bool) → (octets most_fragments aligned node at).encodes x k → (n : ℕ) × (length x ≡ 8 * n)
whole_octets aligned node at x k p =
    (p.value.0, ap length p.is ∙ (all_held aligned 8 node most_fragments at p.value p.front p.first).size)

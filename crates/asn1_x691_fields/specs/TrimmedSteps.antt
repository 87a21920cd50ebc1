-- What the last bit tells of bits that have names.
use Rattle.std.proofs.Common.{◌≡◌, ℕ, ◌+◌, ◌-◌, ◌<◌, ◌≤◌, List, [], ◌∷◌, ◌++◌, Bool, true, false, length, take, drop, sym, refl, ◌∙◌, ap, inl, inr, arith}
use Rattle.std.specs.Prelude.{nat_eq}
use Rattle.std.proofs.Math.Seq.{take-add}
use Rattle.std.proofs.lemmas.List.{drop-drop}
use Rattle.asn1_bits.specs.Bits.{number}
use Rattle.asn1_bits.specs.Laws.NumberLaws.{number_is}
use Rattle.asn1_schema.specs.declared.tables.Length.{Length}
use Rattle.asn1_schema.specs.Encodings.{Fault, Encoding, Starts, IsAt}
use Rattle.asn1_x691.specs.declared.fault.FaultKind.{FaultKind}
use Rattle.asn1_x691.specs.declared.fault.FaultKind.TheVariants.{NotTrimmed}
use Rattle.asn1_x691.specs.Leaves.{AreTrimmed, least_of, bits_by}
use Rattle.asn1_x691_fields.specs.declared.state.State.{State}
use Rattle.asn1_x691_fields.specs.Outcomes.{rest, position, IsWithin, IsOnward}
use Rattle.asn1_x691_fields.specs.Steps.{front_length, one_bit}
use Rattle.asn1_x691_fields.specs.LeafSteps.{permitted_starts, permitted_fault}

last_of : List Bool → Bool
last_of [] = false
last_of (b ∷ []) = b
last_of (b ∷ d ∷ bits) = last_of (d ∷ bits)

last_is : (front : List Bool) (b : Bool) → last_of (front ++ b ∷ []) ≡ b
unfolding last_of
last_is [] b = refl
last_is (a ∷ []) b = refl
last_is (a ∷ d ∷ front) b = last_is (d ∷ front) b

module _ (list : List Bool) (at count : ℕ) (inside : at + count ≤ length list) (size : Length) where
  abbrev named : List Bool
  named = take count (drop at list)

  named_size : length named ≡ count
  named_size = front_length list at count inside

  pub of_least : count ≡ least_of size → AreTrimmed size named
  of_least e = inl (named_size ∙ e)

  pub too_few : count < least_of size → AreTrimmed size named → ⊥
  too_few few (inl e) = omega (arith, few, e, named_size)
  too_few few (inr p) = omega (arith, few, p.0, named_size)

  module _ (longer : least_of size < count) (n : ℕ) (is : n ≡ number (take 1 (drop (at + count - 1) list))) where
    ends_in : named ≡ take (count - 1) (drop at list) ++ nat_eq n 1 ∷ []
    ends_in =
        let e : count ≡ count - 1 + 1 = omega (arith, longer) in
        let f : at + (count - 1) ≡ at + count - 1 = omega (arith, longer) in
        let last = take 1 (drop (at + count - 1) list) in
        let size_of_last : length last ≡ 1 = front_length list (at + count - 1) 1 (omega (arith, longer, inside)) in
        let p = number_is last n 1 size_of_last is in
        ap (λ (k : ℕ). take k (drop at list)) e
        ∙ take-add (count - 1) 1 (drop at list)
        ∙ ap (λ (l : List Bool). take (count - 1) (drop at list) ++ take 1 l)
        (drop-drop (count - 1) at list ∙ ap (λ (k : ℕ). drop k list) f)
        ∙ ap (λ (l : List Bool). take (count - 1) (drop at list) ++ l) (sym p.1 ∙ one_bit n p.0)

    pub last_one : nat_eq n 1 ≡ true → AreTrimmed size named
    last_one one =
        inr (
          omega (arith, longer, named_size),
          (
            take (count - 1) (drop at list),
            ends_in ∙ ap (λ (b : Bool). take (count - 1) (drop at list) ++ b ∷ []) one,
          ),
        )

    pub last_zero : nat_eq n 1 ≡ false → AreTrimmed size named → ⊥
    last_zero zero (inl e) = omega (arith, longer, e, named_size)
    last_zero zero (inr p) =
        let e : false ≡ true =
        sym zero ∙ sym (last_is (take (count - 1) (drop at list)) (nat_eq n 1)) ∙ ap last_of (sym ends_in ∙ p.1.1)
        ∙ last_is p.1.0 true in
        absurd cc

-- ---- bits that have names, or have none

module _ (aligned : Bool) (node : ℕ) (size : Length) (A : ℕ → Encoding FaultKind (List Bool)) (list : List Bool)
    (old mid : State) (h : IsWithin list old) (o : IsOnward list old mid) (bits : List Bool)
    (s : Starts (A (position old)).encodes (rest list old) bits (rest list mid)) where
  pub named_starts : (names : Bool) → (names ≡ true → AreTrimmed size bits)
      → Starts (bits_by aligned node names size A (position old)).encodes (rest list old) bits (rest list mid)
  named_starts false is = s
  named_starts true is =
      permitted_starts (AreTrimmed size) (λ l. ¬ (AreTrimmed size l)) NotTrimmed node A list old mid h o bits s (is refl)

  pub named_fault : (names : Bool) (e : Fault FaultKind) → names ≡ true → (AreTrimmed size bits → ⊥) → IsAt NotTrimmed node (rest list mid) e
      → (bits_by aligned node names size A (position old)).fault (rest list old) e
  named_fault false e t is w = absurd cc
  named_fault true e t is w =
      permitted_fault (AreTrimmed size) (λ l. ¬ (AreTrimmed size l)) NotTrimmed node A list old mid h o bits s e is w

-- a fault before the names are examined
pub unnamed_fault : (aligned : Bool) (node : ℕ) (size : Length) (A : ℕ → Encoding FaultKind (List Bool)) (names : Bool) (at : ℕ)
    (list : List Bool) (e : Fault FaultKind) → (A at).fault list e → (bits_by aligned node names size A at).fault list e
unnamed_fault aligned node size A false at list e w = w
unnamed_fault aligned node size A true at list e w = inl w

-- Which numbers take too many octets.
use Rattle.std.proofs.Common.{◌≡◌, ℕ, ℤ, pos, negsuc, suc, ◌+◌, ◌-◌, ◌*◌, ◌^◌, ◌<◌, ◌≤◌, List, [], ◌∷◌, Bool, true, false, length, refl, sym, ap, ◌∙◌, subst, inl, inr, arith}
use Rattle.std.proofs.Math.Nat.{pow-suc}
use Rattle.std.proofs.Math.Pow.{pow_mono}
use Rattle.asn1_bits.specs.Laws.NumberLaws.{number-nil}
use Rattle.asn1_schema.specs.Encodings.{CanEncode}
use Rattle.asn1_schema.specs.Laws.OneEncodingLaws.{only_constant}
use Rattle.asn1_schema.specs.PiecesOfParts.{signed_number}
use Rattle.asn1_x691.specs.declared.fault.FaultKind.TheVariants.{NotMinimal}
use Rattle.asn1_x691.specs.Fields.{length_octets, length_after, length_of, distance_from_one, large_length, small_length, minimal_octets, semi_constrained, below_minus_one, signed_of, signed_octets, unconstrained}
use Rattle.asn1_x691.specs.Laws.OneEncodingLaws.{inner}
use Rattle.asn1_x691_fields.specs.Numbers.{distance}

-- a length is below 16,384
after_few : (node first n : ℕ) (k : List Bool) → (length_after node first).encodes n k → n < 16384
after_few node first n k (inl p) = let e : n ≡ first = p.1.0 in omega (arith, e, p.0)
after_few node first n k (inr (q, inl (r, p))) =
    let second = p.value in
    let g = only_constant _ _ (256 * (first - 128) + second) p.after NotMinimal node p.rest p.second in
    let e : n ≡ 256 * (first - 128) + second = p.is ∙ g.1 in
    omega (arith, e, r, p.first.0)
after_few node first n k (inr (q, inr (r, p))) = absurd p

pub length_few : (aligned : Bool) (node at n : ℕ) (k : List Bool) → (length_of aligned node at).encodes n k → n < 16384
length_few aligned node at n k p =
    let q = (inner aligned node at (length_octets node) n k p).1 in
    subst (λ (m : ℕ). m < 16384) (sym q.is) (after_few node q.value q.after q.rest q.second)

-- ---- lengths that are mostly small

six_within : (node m : ℕ) (k : List Bool) → (distance_from_one node).encodes m k → (0 < m) × (m < 16384)
six_within node m k p =
    let e : m ≡ p.value + 1 = p.is ∙ p.second.0 in
    (omega (arith, e), omega (arith, e, p.first.0))

large_within : (aligned : Bool) (node at m : ℕ) (k : List Bool) → (large_length aligned node at).encodes m k → (0 < m) × (m < 16384)
large_within aligned node at m k p =
    let few = length_few aligned node at p.value p.front p.first in
    let g = only_constant _ _ p.value p.after NotMinimal node p.rest p.second in
    let e : m ≡ p.value = p.is ∙ g.1 in
    (omega (arith, e, g.0), omega (arith, e, few))

pub small_length_within : (aligned : Bool) (node at n : ℕ) (k : List Bool) → (small_length aligned node at).encodes n k
    → (0 < n) × (n < 16384)
small_length_within aligned node at n k p =
    let h : (0 < p.after) × (p.after < 16384) = elim p.second [
      | inl q ↦ six_within node p.after p.rest q.1
      | inr q ↦ large_within aligned node (at + length p.front) p.after p.rest q.1
    ] in
    (omega (arith, h.0, p.is), omega (arith, h.1, p.is))

-- ---- from 0 on

module _ (aligned : Bool) (node at : ℕ) where
  minimal_below : (count n : ℕ) (k : List Bool) → (minimal_octets count node).encodes n k → n < 2 ^ (8 * count)
  minimal_below count n k p =
      let g = only_constant _ _ p.value p.after NotMinimal node p.rest p.second in
      subst (λ (m : ℕ). m < 2 ^ (8 * count)) (sym (p.is ∙ g.1)) p.first.0

  semi_few : (c n : ℕ) (k : List Bool) → c < 16384 → (minimal_octets c node).encodes n k → (count : ℕ) → 131064 < count
      → 2 ^ (count - 1) ≤ n → ⊥
  semi_few c n k few p count many first =
      let low = minimal_below c n k p in
      let less : 8 * c ≤ count - 1 = omega (arith, few, many) in
      let up : 2 ^ (8 * c) ≤ 2 ^ (count - 1) = pow_mono less in
      omega (arith, low, up, first)

  pub none_semi_constrained : (count n : ℕ) → 131064 < count → 2 ^ (count - 1) ≤ n → CanEncode (semi_constrained aligned node at).encodes n → ⊥
  none_semi_constrained count n many first c =
      let p = c.encoded in
      let few = length_few aligned node at p.value p.front p.first in
      elim p.second [
        | inl q ↦
            let r = inner aligned node (at + length p.front) (minimal_octets p.value node) p.after p.rest q.1 in
            semi_few p.value n r.0 few (subst (λ (m : ℕ). (minimal_octets p.value node).encodes m r.0) (sym p.is) r.1) count many first
        | inr q ↦ absurd q.1
      ]

  -- ---- two's complement

  sign_below : (count d : ℕ) (z : ℤ) (k : List Bool) → 0 < count → d < 2 ^ (8 * count) → (signed_of count node d).encodes z k
      → distance z < 2 ^ (8 * count - 1)
  sign_below count d z k some low (inl p) =
      let g = only_constant _ _ (pos d) z NotMinimal node k p.1 in
      subst (λ (w : ℤ). distance w < 2 ^ (8 * count - 1)) (sym g.1) p.0
  sign_below count d z k some low (inr p) =
      let g = only_constant _ _ (negsuc (below_minus_one count d)) z NotMinimal node k p.1 in
      let e : 8 * count ≡ suc (8 * count - 1) = omega (arith, some) in
      let double : 2 ^ (8 * count) ≡ 2 ^ (8 * count - 1) * 2 = ap (λ (m : ℕ). 2 ^ m) e ∙ pow-suc 2 (8 * count - 1) in
      let few : below_minus_one count d < 2 ^ (8 * count - 1) = omega (arith, double, low, p.0) in
      subst (λ (w : ℤ). distance w < 2 ^ (8 * count - 1)) (sym g.1) few

  signed_few : (c : ℕ) (z : ℤ) (k : List Bool) → 0 < c → c < 16384 → (signed_octets c node).encodes z k → (count : ℕ) → 131064 < count
      → 2 ^ (count - 2) ≤ distance z → ⊥
  signed_few c z k some few p count many first =
      let low = sign_below c p.value p.after p.rest some p.first.0 p.second in
      let same : distance z < 2 ^ (8 * c - 1) = subst (λ (w : ℤ). distance w < 2 ^ (8 * c - 1)) (sym p.is) low in
      let less : 8 * c - 1 ≤ count - 2 = omega (arith, few, many) in
      let up : 2 ^ (8 * c - 1) ≤ 2 ^ (count - 2) = pow_mono less in
      omega (arith, same, up, first)

  pub none_unconstrained : (count : ℕ) (z : ℤ) → 131064 < count → 2 ^ (count - 2) ≤ distance z
      → CanEncode (unconstrained aligned node at).encodes z → ⊥
  none_unconstrained count z many first c =
      let p = c.encoded in
      let few = length_few aligned node at p.value p.front p.first in
      elim p.second [
        | inl q ↦
            let r = inner aligned node (at + length p.front) (signed_octets p.value node) p.after p.rest q.1 in
            signed_few p.value z r.0 q.0 few (subst (λ (w : ℤ). (signed_octets p.value node).encodes w r.0) (sym p.is) r.1) count many first
        | inr q ↦ absurd q.1
      ]

-- one bit is no number far from 0
pub few_bits : (list : List Bool) → length list ≤ 1 → distance (signed_number list) ≡ 0
few_bits [] few = refl
few_bits (false ∷ []) few = number-nil
few_bits (true ∷ []) few = omega (arith, number-nil)
few_bits (a ∷ b ∷ l) few = absurd (omega (arith, few))

-- What octets of two's complement are, by their digits, by their first bit, and where they are many.
use Rattle.std.proofs.Common.{◌≡◌, ℕ, ℤ, pos, negsuc, suc, ◌+◌, ◌-◌, ◌%◌, ◌^◌, ◌<◌, ◌≤◌, List, ◌∷◌, ◌++◌, Bool, true, false, length, take, drop, sym, ◌∙◌, ap, subst, inl, inr, arith, SFits}
use Rattle.std.specs.Int.{w128}
use Rattle.std.specs.Prelude.{nat_eq, ◌+ℤ◌, ◌<ℤ◌, ◌≤ℤ◌}
use Rattle.std.proofs.lemmas.Int.{ints}
use Rattle.std.proofs.Math.Nat.{pow-suc}
use Rattle.std.proofs.Math.Pow.{pow_mono}
use Rattle.std.proofs.Math.Seq.{take-add}
use Rattle.asn1_bits.specs.Bits.{number}
use Rattle.asn1_bits.specs.Laws.NumberLaws.{number_is}
use Rattle.asn1_schema.specs.PiecesOfParts.{signed_number}
use Rattle.asn1_x691.specs.Leaves.{IsOutside}
use Rattle.asn1_x691_fields.specs.FirstBits.{by_sign}
use Rattle.asn1_x691_fields.specs.Numbers.{distance}
use Rattle.asn1_x691_fields.specs.Steps.{front_length, one_bit}

-- ---- by their digits

module _ (bits : List Bool) (w : ℕ) (size : length bits ≡ suc w) where
  pub is_positive : number bits < 2 ^ w → signed_number bits ≡ pos (number bits)
  is_positive low = elim (by_sign bits w size) [
    | inl p ↦ p.same
    | inr p ↦ absurd (omega (arith, low, p.high))
  ]

  pub is_negative : 2 ^ w ≤ number bits → signed_number bits ≡ negsuc (2 ^ w - 1 - (number bits - 2 ^ w))
  is_negative high = elim (by_sign bits w size) [
    | inl p ↦ absurd (omega (arith, high, p.low))
    | inr p ↦ p.below ∙ ap negsuc (let e = pow-suc 2 w in omega (arith, e, high))
  ]

-- ---- more than 16 of them, and no more than they need

pub far : (count : ℕ) (z : ℤ) → 128 < count → count % 8 ≡ 0 → (8 < count → 2 ^ (count - 9) ≤ distance z) → 2 ^ 127 ≤ distance z
far count z many whole fewest =
    let more : 127 ≤ count - 9 = omega (arith, many, whole) in
    let up : 2 ^ 127 ≤ 2 ^ (count - 9) = pow_mono more in
    let low = fewest (omega (arith, many)) in
    omega (arith, up, low)

negative_below : (z : ℤ) (u : ℕ) → 2 ^ 127 ≤ u → SFits w128 z → negsuc u <ℤ z
negative_below (pos n) u many f = record { lt = tt }
negative_below (negsuc n) u many f = let l = f.sfits in omega (arith, ints, many, l)

positive_above : (z : ℤ) (u : ℕ) → 2 ^ 127 ≤ u → SFits w128 z → z ≤ℤ pos u
positive_above (pos n) u many f = let l = f.sfits in omega (arith, ints, many, l)
positive_above (negsuc n) u many f = record { le = tt }

pub far_outside : (z least : ℤ) (range : ℕ) → 2 ^ 127 ≤ distance z → (least +ℤ pos range) <ℤ pos (2 ^ 127)
    → SFits w128 least → IsOutside least range z
far_outside (pos u) least range many fits f = inr (omega (arith, ints, many, fits))
far_outside (negsuc u) least range many fits f = inl (negative_below least u many f)

-- ---- by their first bit

module _ (list : List Bool) (at count n : ℕ) (some : 0 < count) (inside : at + count ≤ length list)
    (is : n ≡ number (take 1 (drop at list))) where
  abbrev others : List Bool
  others = take (count - 1) (drop 1 (drop at list))

  begins : take count (drop at list) ≡ nat_eq n 1 ∷ others
  begins =
      let e : count ≡ 1 + (count - 1) = omega (arith, some) in
      let p = number_is (take 1 (drop at list)) n 1 (front_length list at 1 (omega (arith, some, inside))) is in
      ap (λ (k : ℕ). take k (drop at list)) e
      ∙ take-add 1 (count - 1) (drop at list)
      ∙ ap (λ (l : List Bool). l ++ others) (sym p.1 ∙ one_bit n p.0)

  pub far_below : (bound : ℤ) → nat_eq n 1 ≡ true → 2 ^ 127 ≤ distance (signed_number (take count (drop at list)))
      → SFits w128 bound → signed_number (take count (drop at list)) <ℤ bound
  far_below bound one many f =
      let e : take count (drop at list) ≡ true ∷ others = begins ∙ ap (λ (b : Bool). b ∷ others) one in
      subst (λ (l : List Bool). signed_number l <ℤ bound) (sym e)
      (negative_below bound (2 ^ length others - 1 - number others)
      (subst (λ (l : List Bool). 2 ^ 127 ≤ distance (signed_number l)) e many) f)

  pub far_above : (bound : ℤ) → nat_eq n 1 ≡ false → 2 ^ 127 ≤ distance (signed_number (take count (drop at list)))
      → SFits w128 bound → bound ≤ℤ signed_number (take count (drop at list))
  far_above bound zero many f =
      let e : take count (drop at list) ≡ false ∷ others = begins ∙ ap (λ (b : Bool). b ∷ others) zero in
      subst (λ (l : List Bool). bound ≤ℤ signed_number l) (sym e)
      (positive_above bound (number others) (subst (λ (l : List Bool). 2 ^ 127 ≤ distance (signed_number l)) e many) f)

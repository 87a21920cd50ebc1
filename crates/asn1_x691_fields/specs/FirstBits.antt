-- What the first bits of octets tell of the number that they encode.
use Rattle.std.proofs.Common.{◌≡◌, ◌≢◌, ℕ, pos, negsuc, suc, ◌+◌, ◌-◌, ◌*◌, ◌^◌, ◌<◌, ◌≤◌, List, [], ◌∷◌, Bool, true, false, length, take, drop, ◌∙◌, ap, subst, inl, inr, arith}
use Rattle.std.specs.Prelude.{◌⊎◌}
use Rattle.std.proofs.Math.Nat.{pow-suc, mul-le-mul_right}
use Rattle.std.proofs.Math.Seq.{take-add}
use Rattle.std.proofs.lemmas.List.{length-take-le, length-drop}
use Rattle.std.proofs.lemmas.Nat.{pow-add}
use Rattle.asn1_bits.specs.Bits.{number}
use Rattle.asn1_bits.specs.Laws.NumberLaws.{number-append, number-cons, number-lt}
use Rattle.asn1_schema.specs.PiecesOfParts.{signed_number}
use Rattle.asn1_x691.specs.Fields.{below_minus_one}

-- a number by its first bits
record HasFirst (d first p : ℕ) : Type 0 where
  others : ℕ
  is : d ≡ first * p + others
  below : others < p

first_bits : (list : List Bool) (at width more : ℕ) → at + (width + more) ≤ length list
    → HasFirst (number (take (width + more) (drop at list))) (number (take width (drop at list))) (2 ^ more)
first_bits list at width more h =
    let l = drop at list in
    let others = take more (drop width l) in
    let size : length others ≡ more =
    length-take-le more (drop width l) (omega (arith, length-drop width l, length-drop at list)) in
    record {
      others = number others;
      is = ap number (take-add width more l) ∙ number-append (take width l) others
          ∙ ap (λ (n : ℕ). number (take width l) * 2 ^ n + number others) size;
      below = subst (λ (n : ℕ). number others < 2 ^ n) size (number-lt others);
    }

no_first : (d first p : ℕ) → HasFirst d first p → first ≡ 0 → d < p
no_first d first p h zero =
    let e : d ≡ 0 * p + h.others = h.is ∙ ap (λ (n : ℕ). n * p + h.others) zero in
    omega (arith, e, h.below)

some_first : (d first p : ℕ) → HasFirst d first p → first ≢ 0 → p ≤ d
some_first d first p h some =
    let le : 1 * p ≤ first * p = mul-le-mul_right p (omega (arith, some)) in
    omega (arith, le, h.is)

-- ---- octets of a number from 0 on

module _ (list : List Bool) (at count : ℕ) (some : 1 < count) (h : at + 8 * count ≤ length list) where
  abbrev whole : ℕ
  whole = number (take (8 * count) (drop at list))

  by_first : HasFirst whole (number (take 8 (drop at list))) (2 ^ (8 * (count - 1)))
  by_first =
      let e : 8 + 8 * (count - 1) ≡ 8 * count = omega (arith, some) in
      subst (λ (n : ℕ). HasFirst (number (take n (drop at list))) (number (take 8 (drop at list))) (2 ^ (8 * (count - 1)))) e
      (first_bits list at 8 (8 * (count - 1)) (omega (arith, some, h)))

  pub octet_zero : number (take 8 (drop at list)) ≡ 0 → whole < 2 ^ (8 * (count - 1))
  octet_zero zero = no_first whole _ _ by_first zero

  pub octet_some : number (take 8 (drop at list)) ≢ 0 → 2 ^ (8 * (count - 1)) ≤ whole
  octet_some some = some_first whole _ _ by_first some

-- ---- octets of two's complement

nine_powers : (count : ℕ) → 1 < count
    → (2 ^ (8 * count) ≡ 2 ^ (8 * count - 9) * 512) × (2 ^ (8 * count - 1) ≡ 2 ^ (8 * count - 9) * 256)
nine_powers count some =
    let e : 8 * count ≡ 8 * count - 9 + 9 = omega (arith, some) in
    let f : 8 * count - 1 ≡ 8 * count - 9 + 8 = omega (arith, some) in
    (ap (λ (n : ℕ). 2 ^ n) e ∙ pow-add 2 (8 * count - 9) 9, ap (λ (n : ℕ). 2 ^ n) f ∙ pow-add 2 (8 * count - 9) 8)

module _ (list : List Bool) (at count : ℕ) (some : 1 < count) (h : at + 8 * count ≤ length list) where
  abbrev all : ℕ
  all = number (take (8 * count) (drop at list))

  abbrev nine : ℕ
  nine = number (take 9 (drop at list))

  by_nine : HasFirst all nine (2 ^ (8 * count - 9))
  by_nine =
      let e : 9 + (8 * count - 9) ≡ 8 * count = omega (arith, some) in
      subst (λ (n : ℕ). HasFirst (number (take n (drop at list))) nine (2 ^ (8 * count - 9))) e
      (first_bits list at 9 (8 * count - 9) (omega (arith, some, h)))

  pub nine_zeros : nine ≡ 0 → all < 2 ^ (8 * count - 9)
  nine_zeros zero = no_first all nine _ by_nine zero

  pub nine_ones : nine ≡ 511 → (2 ^ (8 * count - 1) ≤ all) × (below_minus_one count all < 2 ^ (8 * count - 9))
  nine_ones ones =
      let p = nine_powers count some in
      let e : all ≡ 511 * 2 ^ (8 * count - 9) + by_nine.others =
      by_nine.is ∙ ap (λ (n : ℕ). n * 2 ^ (8 * count - 9) + by_nine.others) ones in
      (omega (arith, p.1, e), omega (arith, p.0, e, by_nine.below))

  pub nine_differ : nine ≢ 0 → nine ≢ 511 → (2 ^ (8 * count - 9) ≤ all) × (2 ^ (8 * count - 9) ≤ below_minus_one count all)
  nine_differ not_zeros not_ones =
      let p = nine_powers count some in
      let few : nine < 2 ^ 9 =
      subst (λ (n : ℕ). nine < 2 ^ n) (length-take-le 9 (drop at list) (omega (arith, some, h, length-drop at list)))
      (number-lt (take 9 (drop at list))) in
      let le : nine * 2 ^ (8 * count - 9) ≤ 510 * 2 ^ (8 * count - 9) =
      mul-le-mul_right (2 ^ (8 * count - 9)) (omega (arith, few, not_ones)) in
      (some_first all nine _ by_nine not_zeros, omega (arith, p.0, le, by_nine.is, by_nine.below))

-- ---- the sign

-- a number in two's complement by its first bit
pub record IsPositive (bits : List Bool) (w : ℕ) : Type 0 where
  pub low : number bits < 2 ^ w
  pub same : signed_number bits ≡ pos (number bits)

pub record IsNegative (bits : List Bool) (w : ℕ) : Type 0 where
  pub high : 2 ^ w ≤ number bits
  pub below : signed_number bits ≡ negsuc (2 ^ suc w - 1 - number bits)

pub by_sign : (bits : List Bool) (w : ℕ) → length bits ≡ suc w → IsPositive bits w ⊎ IsNegative bits w
by_sign [] w e = absurd (omega arith)
by_sign (false ∷ bits) w e =
    let same : number (false ∷ bits) ≡ 0 * 2 ^ length bits + number bits = number-cons false bits in
    let size : length bits ≡ w = omega arith in
    let low : number bits < 2 ^ w = subst (λ (n : ℕ). number bits < 2 ^ n) size (number-lt bits) in
    inl (record { low = omega (arith, same, low); same = ap pos (omega (arith, same)) })
by_sign (true ∷ bits) w e =
    let size : length bits ≡ w = omega arith in
    let power : 2 ^ length bits ≡ 2 ^ w = ap (λ (n : ℕ). 2 ^ n) size in
    let same : number (true ∷ bits) ≡ 1 * 2 ^ length bits + number bits = number-cons true bits in
    let double : 2 ^ suc w ≡ 2 ^ w * 2 = pow-suc 2 w in
    inr (record { high = omega (arith, same, power); below = ap negsuc (omega (arith, same, power, double)) })

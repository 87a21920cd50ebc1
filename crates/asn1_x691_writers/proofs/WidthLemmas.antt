-- In how many bits and octets numbers are.
use Rattle.std.proofs.Common.{◌≡◌, ℕ, sym, ◌∙◌, ap, ◌+◌, ◌-◌, ◌*◌, ◌/◌, ◌^◌, ◌<◌, ◌≤◌, inl, inr, arith}
use Rattle.std.specs.Prelude.{◌⊎◌}
use Rattle.std.proofs.Math.Pow.{pow_mono}
use Rattle.std.proofs.lemmas.Bool.{cases_lt}
use Rattle.std.proofs.lemmas.Nat.{div-mul-add, pow-add, pow_pos}
use Rattle.asn1_characters.specs.Laws.WidthLaws.{ceil_log2_is_least}
use Rattle.asn1_x691.specs.Fields.{width_to, octets_needed}
use Rattle.asn1_x691.specs.Laws.OneEncodingLaws.{IsMinimal}

pub width_enough : (n range : ℕ) → n ≤ range → n < 2 ^ width_to range
unfolding width_to
width_enough n range h = let e = (ceil_log2_is_least (range + 1)).enough in omega (arith, e, h)

pub width_fewest : (n w : ℕ) → n < 2 ^ w → width_to n ≤ w
unfolding width_to
width_fewest n w h = (ceil_log2_is_least (n + 1)).least w (omega (arith, h))

pub octets_mono : (n range : ℕ) → n ≤ range → octets_needed (width_to n) ≤ octets_needed (width_to range)
octets_mono n range h =
    let w = width_fewest n (width_to range) (width_enough n range h) in
    omega (arith, w)

pub octets_minimal : (n count : ℕ) → count ≡ octets_needed (width_to n) → IsMinimal count n
octets_minimal n count is =
    let low = width_enough n n (omega arith) in
    let many : width_to n ≤ 8 * count = omega (arith, is) in
    let up : 2 ^ width_to n ≤ 2 ^ (8 * count) = pow_mono many in record {
      below = omega (arith, low, up);
      fewest = elim (cases_lt 1 count) [
        | inr le ↦ inl le
        | inl lt ↦ elim (cases_lt n (2 ^ (8 * (count - 1)))) [
          | inl small ↦ absurd (let w = width_fewest n (8 * (count - 1)) small in omega (arith, w, is, lt))
          | inr le ↦ inr le
        ]
      ];
    }

-- ---- octets of two's complement

-- `count` octets of two's complement hold numbers of a distance from 0 or from -1, and no fewer do
pub record AreSigned (count u : ℕ) : Type 0 where
  pub below : u < 2 ^ (8 * count - 1)
  pub fewest : (count ≤ 1) ⊎ (2 ^ (8 * count - 9) ≤ u)

pub signed_octets : (u count : ℕ) → count ≡ width_to u / 8 + 1 → AreSigned count u
signed_octets u count is =
    let low = width_enough u u (omega arith) in
    let many : width_to u ≤ 8 * count - 1 = omega (arith, is) in
    let up : 2 ^ width_to u ≤ 2 ^ (8 * count - 1) = pow_mono many in record {
      below = omega (arith, low, up);
      fewest = elim (cases_lt 1 count) [
        | inr le ↦ inl le
        | inl lt ↦ elim (cases_lt u (2 ^ (8 * count - 9))) [
          | inl small ↦ absurd (let w = width_fewest u (8 * count - 9) small in omega (arith, w, is, lt))
          | inr le ↦ inr le
        ]
      ];
    }

-- as many ones as the width
pub ones : (w : ℕ) → w ≤ 128 → (2 ^ 128 - 1) / 2 ^ (128 - w) ≡ 2 ^ w - 1
ones w few =
    let some : 0 < 2 ^ w = pow_pos w in
    let more : 0 < 2 ^ (128 - w) = pow_pos (128 - w) in
    let whole : 2 ^ w * 2 ^ (128 - w) ≡ 2 ^ 128 =
    (let all : w + (128 - w) ≡ 128 = omega (arith, few) in sym (pow-add 2 w (128 - w)) ∙ ap (λ (n : ℕ). 2 ^ n) all) in
    let e : 2 ^ w - 1 + 1 ≡ 2 ^ w = omega (arith, some) in
    let f : (2 ^ w - 1) * 2 ^ (128 - w) + 2 ^ (128 - w) ≡ 2 ^ 128 =
    omega (arith, ap (λ (n : ℕ). n * 2 ^ (128 - w)) e, whole) in
    let g : 2 ^ 128 - 1 ≡ (2 ^ w - 1) * 2 ^ (128 - w) + (2 ^ (128 - w) - 1) = omega (arith, f, more) in
    ap (λ (n : ℕ). n / 2 ^ (128 - w)) g ∙ div-mul-add (2 ^ w - 1) (2 ^ (128 - w)) (2 ^ (128 - w) - 1) (omega (arith, more))

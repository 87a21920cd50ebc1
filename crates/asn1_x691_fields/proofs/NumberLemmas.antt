-- Numbers: their widths, and their first octets.
use Rattle.std.proofs.Common.{◌≡◌, ◌≢◌, ℕ, zero, suc, ◌+◌, ◌-◌, ◌/◌, ◌^◌, ◌<◌, ◌≤◌, sym, ◌∙◌, ap, arith, inl, inr}
use Rattle.std.specs.Int.Count.{count_leading_zeros}
use Rattle.std.proofs.Math.Pow.{pow_mono}
use Rattle.std.proofs.lemmas.Bool.{cases_lt}
use Rattle.std.proofs.lemmas.Nat.{leading_top, leading_length, le-div, div_below}
use Rattle.asn1_characters.specs.Widths.{IsLeastWidth, ceil_log2}
use Rattle.asn1_characters.specs.Laws.WidthLaws.{ceil_log2_is, ceil_log2_is_least, too_few}
use Rattle.asn1_characters.proofs.WidthLemmas.{none_is_least}
use Rattle.asn1_x691.specs.Fields.{width_to}

-- ---- widths

digits_of : (bits range : ℕ) → 0 < range → range < 2 ^ bits → IsLeastWidth (range + 1) (bits - count_leading_zeros bits range)
digits_of bits range some few =
    let top = leading_top bits range some few in
    let e : bits - count_leading_zeros bits range ≡ suc top.0 = omega arith in
    rw e (record { enough = omega arith; least = λ v h. omega (arith, too_few (range + 1) top.0 v (omega arith) h) })

-- the digits of a number of `bits` bits
pub width_among : (bits range : ℕ) → range < 2 ^ bits → bits - count_leading_zeros bits range ≡ width_to range
unfolding width_to
width_among bits zero few =
    let all = leading_length bits 0 few in
    let none : bits - count_leading_zeros bits 0 ≡ 0 = elim (cases_lt 0 all.0) [
      | inl lt ↦ absurd (let up : 2 ^ 1 ≤ 2 ^ all.0 = pow_mono lt in omega arith)
      | inr le ↦ omega arith
    ] in
    none ∙ sym (ceil_log2_is 1 0 (none_is_least 1 (omega arith)))
width_among bits (suc n) few = sym (ceil_log2_is (suc n + 1) _ (digits_of bits (suc n) (omega arith) few))

pub width_is : (range : ℕ) → range < 2 ^ 128 → 128 - count_leading_zeros 128 range ≡ width_to range
width_is range few = width_among 128 range few

-- from two numbers to 128
pub narrow_width : (range : ℕ) → 1 ≤ range → range ≤ 127 → (1 ≤ width_to range) × (width_to range ≤ 7)
unfolding width_to
narrow_width range some few =
    let is = ceil_log2_is_least (range + 1) in
    let low : ceil_log2 (range + 1) ≤ 7 = is.least 7 (omega (arith, few)) in
    let high : 1 ≤ ceil_log2 (range + 1) = elim (cases_lt 0 (ceil_log2 (range + 1))) [
      | inl lt ↦ omega (arith, lt)
      | inr le ↦
          let none : ceil_log2 (range + 1) ≡ 0 = omega (arith, le) in
          let one : 2 ^ ceil_log2 (range + 1) ≡ 1 = ap (λ (n : ℕ). 2 ^ n) none in
          absurd (omega (arith, one, is.enough, some))
    ] in
    (high, low)

-- ---- a quotient that is zero

pub quotient_zero : (n p : ℕ) → 0 < p → n / p ≡ 0 → n < p
quotient_zero n p some e = elim (cases_lt n p) [
  | inl lt ↦ lt
  | inr le ↦ absurd (let m = le-div 1 n p some (omega arith) in omega (arith, m, e))
]

pub quotient_some : (n p : ℕ) → 0 < p → n / p ≢ 0 → p ≤ n
quotient_some n p some ne = elim (cases_lt n p) [
  | inl lt ↦ absurd (let m = div_below n p 1 some (omega arith) in ne (omega (arith, m)))
  | inr le ↦ le
]

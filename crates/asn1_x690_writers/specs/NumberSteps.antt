-- What follows of numbers in two's complement.
use Rattle.std.proofs.Common.{◌≡◌, ℕ, ℤ, zero, suc, pos, negsuc, ◌+◌, ◌-◌, ◌*◌, ◌/◌, ◌^◌, ◌<◌, ◌≤◌, List, false, refl, sym, ap, ◌∙◌, arith}
use Rattle.std.proofs.lemmas.Nat.{pow-add, pow_pos, div-mul-add}
use Rattle.std.proofs.Math.Nat.{pow-succ'}
use Rattle.std.proofs.Math.Pow.{pow_mono}
use Rattle.std.specs.Int.{bytes_high_first}
use Rattle.asn1_bits.specs.Bits.{bits, digits}
use Rattle.asn1_bits.specs.Laws.ByteLaws.{bits-bytes}
use Rattle.asn1_bits.specs.Laws.DigitLaws.{length-digits}
use Rattle.asn1_number.specs.Shortest.{octets_past_first, residue_at, shortest_octets}
use Rattle.asn1_number.specs.Laws.ShortestLaws.{past_first_only, shortest_octets_are}
use Rattle.asn1_x691_writers.specs.Written.{IsGrown}
use Rattle.asn1_x690_writers.specs.Numbers.{mag_of, IsNumberWritten}
use lib.Signed.{mag, le_z}
use borrow.Author.Differences.{le-false}

mag_is : (z : ℤ) → mag z ≡ mag_of z
mag_is (pos n) = refl
mag_is (negsuc n) = refl

-- 128 times a power of 256
pub power_is : (k : ℕ) → 128 * 256 ^ k ≡ 2 ^ (8 * k + 7)
power_is zero = refl
power_is (suc k) =
    let e : 8 * suc k + 7 ≡ 8 + (8 * k + 7) = omega arith in
    let p : 2 ^ (8 + (8 * k + 7)) ≡ 2 ^ 8 * 2 ^ (8 * k + 7) = pow-add 2 8 (8 * k + 7) in
    let q : 256 ^ suc k ≡ 256 * 256 ^ k = pow-succ' 256 k in
    let ih = power_is k in
    sym (ap (λ (n : ℕ). 2 ^ n) e ∙ p ∙ (omega (arith, ih, q)))

pub written : (z : ℤ) (k n : ℕ) (was : List ℕ) (old : ℕ) (now : List ℕ) (new : ℕ) → mag_of z < 2 ^ (8 * k + 7)
    → (0 < k → 2 ^ (8 * (k - 1) + 7) ≤ mag_of z) → n ≡ residue_at (k + 1) z → IsGrown was old now new (digits n (8 * (k + 1)))
    → IsNumberWritten z was old now new
unfolding shortest_octets
written z k n was old now new holds least is g =
    let high : mag z < 128 * 256 ^ k = omega (arith, mag_is z, power_is k, holds) in
    let low : (i : ℕ) → i < k → 128 * 256 ^ i ≤ mag z =
    λ i h.
    let some = least (omega (arith, h)) in
    let up : 2 ^ (8 * i + 7) ≤ 2 ^ (8 * (k - 1) + 7) = pow_mono (let m : 8 * i + 7 ≤ 8 * (k - 1) + 7 = omega (arith, h) in m) in
    omega (arith, mag_is z, power_is i, some, up) in
    let count : k ≡ octets_past_first z = past_first_only k z high low in
    let one : suc k ≡ k + 1 = omega arith in
    let octets : shortest_octets z ≡ bytes_high_first (k + 1) n =
    ap (λ (j : ℕ). bytes_high_first (suc j) (residue_at (suc j) z)) (sym count)
    ∙ ap (λ (j : ℕ). bytes_high_first j (residue_at j z)) one
    ∙ ap (λ (m : ℕ). bytes_high_first (k + 1) m) (sym is) in
    record {
      list = digits n (8 * (k + 1));
      encodes = (shortest_octets z, shortest_octets_are z, sym (ap bits octets ∙ bits-bytes (k + 1) n));
      whole = omega (arith, length-digits n (8 * (k + 1)));
      grown = g;
    }

eight : (k : ℕ) → 256 ^ k ≡ 2 ^ (8 * k)
eight zero = refl
eight (suc k) =
    let e : 8 * suc k ≡ 8 + 8 * k = omega arith in
    let p : 2 ^ (8 + 8 * k) ≡ 2 ^ 8 * 2 ^ (8 * k) = pow-add 2 8 (8 * k) in
    let q : 256 ^ suc k ≡ 256 * 256 ^ k = pow-succ' 256 k in
    let ih = eight k in
    sym (ap (λ (n : ℕ). 2 ^ n) e ∙ p ∙ (omega (arith, ih, q)))

-- as many ones as `count` octets have bits
pub mask_is : (count : ℕ) → count ≤ 16 → (2 ^ 128 - 1) / 2 ^ (128 - 8 * count) ≡ 2 ^ (8 * count) - 1
mask_is count few =
    let P = 2 ^ (8 * count) in
    let Q = 2 ^ (128 - 8 * count) in
    let p : ℕ = P - 1 in
    let some : 0 < P = pow_pos (8 * count) in
    let more : 0 < Q = pow_pos (128 - 8 * count) in
    let e : 8 * count + (128 - 8 * count) ≡ 128 = omega (arith, few) in
    let prod : 2 ^ 128 ≡ P * Q = ap (λ (n : ℕ). 2 ^ n) (sym e) ∙ pow-add 2 (8 * count) (128 - 8 * count) in
    let one : P ≡ p + 1 = omega (arith, some) in
    let split : P * Q ≡ p * Q + Q = ap (λ (n : ℕ). n * Q) one ∙ (omega arith) in
    let whole : 2 ^ 128 - 1 ≡ p * Q + (Q - 1) = omega (arith, prod, split, more) in
    let low : Q - 1 < Q = omega (arith, more) in
    ap (λ (n : ℕ). n / Q) whole ∙ div-mul-add p Q (Q - 1) low

-- the digits of a number below 0
pub negative_digits : (z : ℤ) (count m : ℕ) → le_z (pos 0) z ≡ false → m ≡ mag_of z → 2 ^ (8 * count) - 1 - m ≡ residue_at count z
negative_digits (pos n) count m low e = absurd (let h = le-false (pos 0) (pos n) low in omega (arith, h))
negative_digits (negsuc n) count m low e = omega (arith, e, eight count)

pub some_power : (k : ℕ) → 0 < 2 ^ (8 * k)
some_power k = pow_pos (8 * k)

-- The two's complement value of octets, from the number of their bits.
use Rattle.std.proofs.Common.{◌≡◌, ℕ, zero, suc, ◌+◌, ◌-◌, ◌*◌, ◌^◌, ◌<◌, ◌≤◌, ℤ, pos, negsuc, ◌-ℤ◌, Bool, List, [], ◌∷◌, length, take, refl, sym, ap, subst, ◌∙◌, arith, inl, inr}
use Rattle.std.specs.Prelude.{All}
use Rattle.std.proofs.Math.Nat.{pow-suc, suc-mul, mul-le-mul_right}
use Rattle.std.proofs.lemmas.Nat.{pow-add, pow_pos, mul-add-lt}
use Rattle.std.proofs.lemmas.Int.{ints}
use Rattle.std.specs.Int.{w128}
use mir.Val.{of_z}
use Rattle.std.proofs.lemmas.Bool.{cases_lt, cond-true, cond-false, lt-ltb, le-ltb}
use Rattle.std.proofs.lemmas.List.{take_all}
use Rattle.std.proofs.lemmas.List.Elements.{All-nil, All-cons, All-head, All-tail}
use lib.Dec.{ltb}
use Rattle.asn1_bits.specs.Bits.{digits, number, bits}
use Rattle.asn1_bits.specs.Laws.DigitLaws.{length-bits}
use Rattle.asn1_bits.specs.Laws.NumberLaws.{number-nil, number-append, number_of-digits, digits_of-number, digits-low, number-below}
use Rattle.asn1_number.specs.Octets.{IsOctets, IsShortest, unsigned, signed}
use Rattle.asn1_number.specs.Readings.{FitsI128}
use Rattle.asn1_number.specs.Laws.LawsHold.{shortest_by_nine_bits}
use Rattle.asn1_number.specs.Laws.ReadingLaws.{past_sixteen}

-- the two ways to say that each is an octet
pub IsOctets_from_All : (octets : List ℕ) → All (λ octet. octet < 256) octets → IsOctets octets
IsOctets_from_All [] h = tt
IsOctets_from_All (x ∷ xs) h =
    (All-head (λ octet. octet < 256) x xs h, IsOctets_from_All xs (All-tail (λ octet. octet < 256) x xs h))

pub All_from_IsOctets : (octets : List ℕ) → IsOctets octets → All (λ octet. octet < 256) octets
All_from_IsOctets [] h = All-nil (λ octet. octet < 256)
All_from_IsOctets (x ∷ xs) h = All-cons (λ octet. octet < 256) x xs h.0 (All_from_IsOctets xs h.1)

power : (k : ℕ) → 256 ^ k ≡ 2 ^ (8 * k)
power zero = refl
power (suc k) =
    let e : 8 * suc k ≡ 8 * k + 8 = omega arith in
    pow-suc 256 k ∙ ap (λ (m : ℕ). m * 256) (power k) ∙ sym (ap (λ (j : ℕ). 2 ^ j) e ∙ pow-add 2 (8 * k) 8)

pub number-bits : (o : List ℕ) → IsOctets o → number (bits o) ≡ unsigned o
unfolding bits unsigned
number-bits [] h = number-nil
number-bits (b ∷ bs) h =
    let p : 2 ^ length (bits bs) ≡ 256 ^ length bs = ap (λ (k : ℕ). 2 ^ k) (length-bits bs) ∙ sym (power (length bs)) in
    number-append (digits b 8) (bits bs)
    ∙ ap (λ (k : ℕ). k * 2 ^ length (bits bs) + number (bits bs)) (number_of-digits b 8 h.0)
    ∙ ap (λ (k : ℕ). b * k + number (bits bs)) p
    ∙ ap (λ (k : ℕ). b * 256 ^ length bs + k) (number-bits bs h.1)

-- the number that a word's lowest bits mean, of which the first is the sign
pub word_value : (o : List ℕ) (list : List Bool) (word width : ℕ) (n : ℤ) → All (λ octet. octet < 256) o → bits o ≡ list
    → width ≡ length list → word ≡ number (take width list) → 0 < width
    → (word < 2 ^ (width - 1) → n ≡ pos word) → (2 ^ (width - 1) ≤ word → n ≡ pos word -ℤ pos (2 ^ width))
    → n ≡ signed o
unfolding signed unsigned
word_value o list word width n are is long held some low high = at o (IsOctets_from_All o are) is
  where
    all : word ≡ number list
    all = held ∙ ap number (take_all width list (omega (arith, long)))

    below : (bs : List ℕ) → IsOctets bs → unsigned bs < 256 ^ length bs
    below bs h =
        omega (
          arith,
          number-below (bits bs) (8 * length bs) (omega (arith, length-bits bs)),
          number-bits bs h,
          power
              (length bs),
        )

    at : (o : List ℕ) → IsOctets o → bits o ≡ list → n ≡ signed o
    at [] h e = absurd (omega (arith, long, ap length e, length-bits []))
    at (b ∷ bs) h e =
        let m : ℕ = 256 ^ length bs in
        let len : width ≡ 8 + 8 * length bs = omega (arith, long, ap length (sym e), length-bits (b ∷ bs)) in
        let is_word : word ≡ b * m + unsigned bs = all ∙ ap number (sym e) ∙ number-bits (b ∷ bs) h in
        let whole : 2 ^ width ≡ 256 ^ length (b ∷ bs) = ap (λ (k : ℕ). 2 ^ k) (len ∙ omega arith)
        ∙ sym (power (length (b ∷ bs))) in
        let before : width - 1 ≡ 7 + 8 * length bs = omega (arith, len) in
        let half : 2 ^ (width - 1) ≡ 128 * m = ap (λ (k : ℕ). 2 ^ k) before ∙ pow-add 2 7 (8 * length bs)
        ∙ ap (λ (k : ℕ). 128 * k) (sym (power (length bs))) in
        elim (cases_lt b 128) [
          | inl lt ↦
              let sum = mul-add-lt b m (unsigned bs) 128 lt (below bs h.1) in
              low (omega (arith, is_word, half, sum)) ∙ ap (λ (k : ℕ). pos k) is_word
              ∙ sym (cond-true (ltb b 128) _ _ (lt-ltb b 128 lt))
          | inr le ↦
              let sum : 128 * m ≤ b * m = mul-le-mul_right m le in
              high (omega (arith, is_word, half, sum)) ∙ ap (λ (k : ℕ). pos k -ℤ pos (2 ^ width)) is_word
              ∙ ap (λ (k : ℕ). pos (b * m + unsigned bs) -ℤ pos k) whole
              ∙ sym (cond-false (ltb b 128) _ _ (le-ltb b 128 le))
        ]

-- a power of 2 is twice the one before
pub twice : (width : ℕ) → 0 < width → 2 ^ width ≡ 2 * 2 ^ (width - 1)
twice width some =
    let e : width ≡ suc (width - 1) = omega arith in
    ap (λ (k : ℕ). 2 ^ k) e ∙ omega (arith, pow-suc 2 (width - 1))

-- ---- the lowest octets of a word

-- a number of `i128` has no more than sixteen shortest octets
pub sixteen_at_most : (n : ℤ) (o : List ℕ) → FitsI128 n → IsShortest n o → length o ≤ 16
sixteen_at_most n o fits s = elim (cases_lt 16 (length o)) [
  | inl lt ↦
      let differ = (shortest_by_nine_bits o s.octets s.some).0 (subst (λ (m : ℤ). IsShortest m o) (sym s.value) s) in
      absurd (past_sixteen o s.octets differ lt (subst FitsI128 (sym s.value) fits))
  | inr le ↦ le
]

-- and they are the lowest digits of its word
pub lowest_octets : (n : ℤ) (o : List ℕ) → IsOctets o → signed o ≡ n → 0 < length o → length o ≤ 16
    → digits (of_z w128 n) (8 * length o) ≡ bits o
unfolding signed unsigned
lowest_octets n [] h value some few = absurd (omega arith)
lowest_octets n (b ∷ bs) h value some few =
    let o : List ℕ = b ∷ bs in
    let width : ℕ = 8 * length o in
    let m : ℕ = 2 ^ width in
    let u : ℕ = unsigned o in
    let number_is : u ≡ number (bits o) = sym (number-bits o h) in
    let below : u < m = omega (arith, number_is, number-below (bits o) width (omega (arith, length-bits o))) in
    let back : digits u width ≡ bits o = ap (λ (k : ℕ). digits k width) number_is
    ∙ digits_of-number (bits o) width (length-bits o) in
    let q : ℕ = 2 ^ (128 - width) - 1 in
    let one_more : suc q ≡ 2 ^ (128 - width) = omega (arith, pow_pos (128 - width)) in
    let whole : 128 - width + width ≡ 128 = omega (arith, few) in
    let all : q * m + m ≡ 2 ^ 128 = sym (suc-mul q m) ∙ ap (λ (k : ℕ). k * m) one_more
    ∙ sym (pow-add 2 (128 - width) width) ∙ ap (λ (k : ℕ). 2 ^ k) whole in
    elim (cases_lt b 128) [
      | inl lt ↦
          let is : n ≡ pos u = sym value ∙ cond-true (ltb b 128) _ _ (lt-ltb b 128 lt) in
          ap (λ (z : ℤ). digits (of_z w128 z) width) is ∙ back
      | inr le ↦
          let is : n ≡ pos u -ℤ pos m = sym value ∙ cond-false (ltb b 128) _ _ (le-ltb b 128 le)
          ∙ ap (λ (k : ℕ). pos u -ℤ pos k) (power (length o)) in
          let negative : pos u -ℤ pos m ≡ negsuc (m - suc u) = omega (arith, ints, below) in
          let rest : 2 ^ 128 - suc (m - suc u) ≡ q * m + u = omega (arith, below, all) in
          let wraps : of_z w128 (pos u -ℤ pos m) ≡ q * m + u = ap (of_z w128) negative ∙ rest in
          ap (λ (z : ℤ). digits (of_z w128 z) width) is ∙ ap (λ (k : ℕ). digits k width) wraps ∙ digits-low q u width
          ∙ back
    ]

-- Eight octets that are ORed in as one word.
use Rattle.std.proofs.Common.{◌≡◌, ℕ, zero, suc, ◌+◌, ◌-◌, ◌*◌, ◌/◌, ◌%◌, ◌^◌, ◌<◌, ◌≤◌, min, Bool, false, ◌||◌, List, ◌∷◌, ◌++◌, length, get_or, take, drop, replicate, sym, ap, ◌∙◌, inl, inr, arith}
use Rattle.std.proofs.Math.Seq.{take-add}
use Rattle.std.specs.Prelude.{bit_and, bit_or}
use Rattle.std.specs.Int.{bit_at, byte_at, bytes_low_first, bytes_high_first, to_le_bytes, from_le_bytes, w64}
use Rattle.std.proofs.lemmas.Bool.{cases_lt}
use Rattle.std.proofs.lemmas.List.{length-append, length-take, length-drop, take-append-drop, drop-drop, take-replicate, length-replicate, ext_get_or, get_or-replicate, get_or_past, get_or_append_left, get_or-append_right}
use Rattle.std.proofs.lemmas.Nat.{shr-shr, shr_below, pow_pos, or_disjoint, le_bytes_8, mod_below}
use Rattle.std.proofs.lemmas.Nat.Bits.{bit_at_and, bit_at-zero, bit_at_above, bit_at_cat_low, same_from_bits}
use Rattle.asn1_bits.specs.Bits.{is_odd, digits, number, bits, ored, IsZeroFrom}
use Rattle.asn1_bits.specs.Laws.NumberLaws.{number-append, number_of-digits}
use Rattle.asn1_bits.specs.Laws.DigitLaws.{length-digits, length-bits, get_or-digits, get_or-bits, bits-append, bits-take, bits-drop}
use Rattle.asn1_bits.specs.Laws.ByteLaws.{digits-mod, byte_at_is}
use Rattle.asn1_bits.proofs.OredLemmas.{length-ored, get_or-ored_inside, get_or-ored_outside, ored-append_left}
use Rattle.asn1_bits.proofs.BufferLemmas.{bits-zeros, digits-zero}
use Rattle.asn1_bits.proofs.WindowLemmas.{is_odd-or, bits-octet, eight-small}

octet-low_first : (from k n q at : ℕ) → q < k → at ≡ from + q → get_or (bytes_low_first from k n) q 0 ≡ byte_at at n
octet-low_first from zero n q at h e = absurd (omega arith)
octet-low_first from (suc k) n zero at h e = (let same : from ≡ at = omega arith in ap (λ (i : ℕ). byte_at i n) same)
octet-low_first from (suc k) n (suc q) at h e = octet-low_first (suc from) k n q at (omega arith) (omega arith)

-- the digits of a number's octet are digits of the number
octet-digit : (n q k : ℕ) → k < 8 → is_odd (byte_at q n / 2 ^ k) ≡ is_odd (n / 2 ^ (8 * q + k))
octet-digit n q k h =
    let m = n / 2 ^ (8 * q) in
    let at : 7 - k + k + 1 ≡ 8 = omega arith in
    ap (λ (o : ℕ). is_odd (o / 2 ^ k)) (byte_at_is q n)
    ∙ sym (get_or-digits (m % 2 ^ 8) 8 (7 - k) k at)
    ∙ ap (λ (l : List Bool). get_or l (7 - k) false) (digits-mod m 8)
    ∙ get_or-digits m 8 (7 - k) k at
    ∙ ap is_odd (shr-shr n (8 * q) k)

-- a bit of the octets of a number, the lowest octet first
word-bit : (octets : List ℕ) (n i : ℕ) → i < 64 → octets ≡ to_le_bytes w64 n
    → get_or (bits octets) i false ≡ is_odd (n / 2 ^ (8 * (i / 8) + (7 - i % 8)))
word-bit octets n i h e =
    get_or-bits octets i
    ∙ ap (λ (o : ℕ). is_odd (o / 2 ^ (7 - i % 8)))
    (ap (λ (l : List ℕ). get_or l (i / 8) 0) e ∙ octet-low_first 0 8 n (i / 8) (i / 8) (omega arith) (omega arith))
    ∙ octet-digit n (i / 8) (7 - i % 8) (omega arith)

-- eight octets ORed as words, whose lowest octet is the first
pub words-or : (xs ys new : List ℕ) (x y : ℕ) → xs ≡ to_le_bytes w64 x → ys ≡ to_le_bytes w64 y
    → new ≡ to_le_bytes w64 (bit_or x y)
    → bits new ≡ ored (bits xs) 0 (bits ys)
words-or xs ys new x y ex ey e =
    let n : length new ≡ 8 = ap (λ (l : List ℕ). length l) e in
    let m : length xs ≡ 8 = ap (λ (l : List ℕ). length l) ex in
    ext_get_or false (bits new) (ored (bits xs) 0 (bits ys))
    (omega (arith, n, m, length-bits new, length-ored (bits xs) 0 (bits ys), length-bits xs))
    (λ i lt.
    let h : i < 64 = omega (arith, n, length-bits new) in
    let k = 8 * (i / 8) + (7 - i % 8) in
    word-bit new (bit_or x y) i h e
    ∙ is_odd-or x y k
    ∙ ap (λ (b : Bool). b || is_odd (y / 2 ^ k)) (sym (word-bit xs x i h ex))
    ∙ ap (λ (b : Bool). get_or (bits xs) i false || b) (sym (word-bit ys y i h ey))
    ∙ sym (get_or-ored_inside (bits xs) 0 (bits ys) i i (omega (arith, length-bits xs, m)) (omega arith)))

-- the word of eight octets, the lowest first, has them
pub loaded_native : (octets eight : List ℕ) (first n : ℕ) → ((i : ℕ) → get_or octets i 0 < 256)
    → first + 8 ≤ length octets
    → eight ≡ take 8 (drop first octets) → n ≡ from_le_bytes w64 eight → to_le_bytes w64 n ≡ take 8 (drop first octets)
loaded_native octets eight first n small h e is =
    let len : length eight ≡ 8 = ap (λ (l : List ℕ). length l) e
    ∙ omega (arith, length-take 8 (drop first octets), length-drop first octets) in
    le_bytes_8 eight n len (eight-small octets eight first small e) is ∙ e

-- what precedes the bits that are ORed in is unchanged
ored-behind : (front list src : List Bool) (place : ℕ) → place ≡ length front
    → ored (front ++ list) place src ≡ front ++ ored list 0 src
ored-behind front list src place e =
    ext_get_or false (ored (front ++ list) place src) (front ++ ored list 0 src)
    (omega (
      arith,
      length-ored (front ++ list) place src,
      length-ored list 0 src,
      length-append front list,
      length-append front (ored list 0 src),
    ))
    (λ i lt.
    let within : i < length (front ++ list) = omega (arith, length-ored (front ++ list) place src) in
    elim (cases_lt i place) [
      | inl below ↦
          get_or-ored_outside (front ++ list) place src i within (inl below)
          ∙ get_or_append_left front list false i (omega arith)
          ∙ sym (get_or_append_left front (ored list 0 src) false i (omega arith))
      | inr from ↦
          get_or-ored_inside (front ++ list) place src i (i - place) within (omega arith)
          ∙ ap (λ (b : Bool). b || get_or src (i - place) false)
          (get_or-append_right front list place i false (sym e) from)
          ∙ sym (get_or-append_right front (ored list 0 src) place i false (sym e) from
          ∙ get_or-ored_inside list 0 src (i - place) (i - place) (omega (arith, length-append front list))
          (omega arith))
    ])

-- eight octets that were stored
pub eight-stored : (old new octets : List ℕ) (q : ℕ) → new ≡ take q old ++ (octets ++ drop (q + 8) old)
    → length octets ≡ 8
    → bits new ≡ take (8 * q) (bits old) ++ (bits octets ++ drop (8 * q + 64) (bits old))
eight-stored old new octets q e n =
    let past : 8 * (q + 8) ≡ 8 * q + 64 = omega arith in
    ap bits e
    ∙ bits-append (take q old) (octets ++ drop (q + 8) old)
    ∙ ap (λ (l : List Bool). l ++ bits (octets ++ drop (q + 8) old)) (bits-take q old)
    ∙ ap (λ (l : List Bool). take (8 * q) (bits old) ++ l) (bits-append octets (drop (q + 8) old)
    ∙ ap (λ (l : List Bool). bits octets ++ l) (bits-drop (q + 8) old ∙ ap (λ (m : ℕ). drop m (bits old)) past))

-- eight octets that were stored for those that stood there, with bits ORed in
pub eight-ored : (old new octets : List ℕ) (src : List Bool) (q : ℕ)
    → new ≡ take q old ++ (octets ++ drop (q + 8) old) → q + 8 ≤ length old → length src ≤ 64
    → bits octets ≡ ored (bits (take 8 (drop q old))) 0 src
    → bits new ≡ ored (bits old) (8 * q) src
eight-ored old new octets src q e room fits is =
    let front = take q old in
    let mid = take 8 (drop q old) in
    let back = drop (q + 8) old in
    let whole : front ++ (mid ++ back) ≡ old =
    ap (λ (l : List ℕ). front ++ (mid ++ l)) (sym (drop-drop 8 q old))
    ∙ ap (λ (l : List ℕ). front ++ l) (take-append-drop 8 (drop q old)) ∙ take-append-drop q old in
    let spelled : bits front ++ (bits mid ++ bits back) ≡ bits old =
    ap (λ (l : List Bool). bits front ++ l) (sym (bits-append mid back)) ∙ sym (bits-append front (mid ++ back))
    ∙ ap bits whole in
    let len : length mid ≡ 8 = omega (arith, length-take 8 (drop q old), length-drop q old, room) in
    ap bits e
    ∙ bits-append front (octets ++ back)
    ∙ ap (λ (l : List Bool). bits front ++ l) (bits-append octets back ∙ ap (λ (l : List Bool). l ++ bits back) is
    ∙ sym (ored-append_left (bits mid) (bits back) 0 src (omega (arith, length-bits mid, len, fits))))
    ∙ sym (ap (λ (l : List Bool). ored l (8 * q) src) (sym spelled)
    ∙ ored-behind (bits front) (bits mid ++ bits back) src (8 * q)
    (omega (arith, length-bits front, length-take q old, room)))

-- the octets of a number are octets
pub high_first-small : (k n i : ℕ) → get_or (bytes_high_first k n) i 0 < 256
high_first-small zero n i = omega arith
high_first-small (suc k) n zero = rw (byte_at_is k n) (mod_below (n / 2 ^ (8 * k)) 256 (omega arith))
high_first-small (suc k) n (suc i) = high_first-small k n i

-- so are one octet and seven zeros
pub begun-small : (o : ℕ) → o < 256 → (i : ℕ) → get_or (o ∷ replicate 7 0) i 0 < 256
begun-small o h zero = h
begun-small o h (suc i) =
    elim (cases_lt i 7) [
      | inl lt ↦ rw (get_or-replicate {A = ℕ} 7 i 0 0 lt) (omega arith)
      | inr past ↦ rw (get_or_past {X = ℕ} (replicate 7 0) i 0 (omega (arith, length-replicate {A = ℕ} 7 0))) (omega arith)
    ]

-- one octet and seven zeros encode the octets from index q on, where zeros are after the first of them
pub begun-bits : (octets begun : List ℕ) (q : ℕ) → begun ≡ get_or octets q 0 ∷ replicate 7 0
    → IsZeroFrom (8 * q + 8) (bits octets) → q + 8 ≤ length octets
    → bits begun ≡ bits (take 8 (drop q octets))
unfolding bits
begun-bits octets begun q e z room =
    let o = get_or octets q 0 in
    let all = bits octets in
    let n = length-bits octets in
    ap bits e
    ∙ ap (λ (l : List Bool). digits o 8 ++ l) (bits-zeros 7)
    ∙ ap (λ (l : List Bool). l ++ replicate 56 false) (sym (bits-octet octets q (omega (arith, room))))
    ∙ ap (λ (l : List Bool). take 8 (drop (8 * q) all) ++ l)
    (sym (ap (take 56) (drop-drop 8 (8 * q) all ∙ z.zero)
    ∙ take-replicate 56 (length all - (8 * q + 8)) false (omega (arith, n, room))))
    ∙ sym (take-add 8 56 (drop (8 * q) all))
    ∙ ap (take 64) (sym (bits-drop q octets))
    ∙ sym (bits-take 8 (drop q octets))

-- the octet in which zeros begin, as a number
pub begun-octet : (octets : List ℕ) (o place : ℕ) → o ≡ get_or octets (place / 8) 0 → o < 256
    → IsZeroFrom place (bits octets) → place / 8 < length octets
    → o ≡ number (take (place % 8) (drop (8 * (place / 8)) (bits octets))) * 2 ^ (8 - place % 8)
begun-octet octets o place is small z room =
    let q = place / 8 in
    let s = place % 8 in
    let k = 8 - s in
    let all = bits octets in
    let rest = drop (8 * q) all in
    let whole : 8 ≡ s + k = omega arith in
    let at : 8 * q + s ≡ place = omega arith in
    let zeros : take k (drop s rest) ≡ digits 0 k =
    ap (take k) (drop-drop s (8 * q) all ∙ ap (λ (n : ℕ). drop n all) at ∙ z.zero)
    ∙ take-replicate k (length all - place) false (omega (arith, length-bits octets, room)) ∙ sym (digits-zero k) in
    sym (number_of-digits o 8 small)
    ∙ ap number (ap (λ (n : ℕ). digits n 8) is ∙ sym (bits-octet octets q room)
    ∙ ap (λ (n : ℕ). take n rest) whole ∙ take-add s k rest ∙ ap (λ (l : List Bool). take s rest ++ l) zeros)
    ∙ number-append (take s rest) (digits 0 k)
    ∙ ap (λ (n : ℕ). number (take s rest) * 2 ^ n + number (digits 0 k)) (length-digits 0 k)
    ∙ ap (λ (n : ℕ). number (take s rest) * 2 ^ k + n) (number_of-digits 0 k (pow_pos k))
    ∙ omega arith

-- it meets no digit of a number whose lowest octet is below its zeros
pub begun-apart : (o a k t : ℕ) → o ≡ a * 2 ^ k → o < 256 → t % 256 < 2 ^ k → bit_or o t ≡ o + t
begun-apart o a k t is small below =
    let none : (b : ℕ) → min 0 b ≡ 0 = λ b. omega arith in
    or_disjoint o t
    (same_from_bits (bit_and o t) 0
    (λ i.
    bit_at_and o t i
    ∙ (elim (cases_lt i k) [
      | inl lt ↦
          ap (λ (b : ℕ). min b (bit_at t i))
          ((let e : o ≡ a * 2 ^ k + 0 = omega (arith, is) in ap (λ (n : ℕ). bit_at n i) e)
          ∙ bit_at_cat_low a k 0 i lt ∙ bit_at-zero i)
          ∙ none (bit_at t i)
      | inr past ↦
          (elim (cases_lt i 8) [
            | inl inside ↦
                ap (λ (b : ℕ). min (bit_at o i) b)
                ((let e : t ≡ t / 256 * 2 ^ 8 + t % 256 = omega arith in ap (λ (n : ℕ). bit_at n i) e)
                ∙ bit_at_cat_low (t / 256) 8 (t % 256) i inside ∙ bit_at_above (t % 256) k i below past)
                ∙ omega arith
            | inr far ↦ ap (λ (b : ℕ). min b (bit_at t i)) (bit_at_above o 8 i small far) ∙ none (bit_at t i)
          ])
    ])
    ∙ sym (bit_at-zero i)))

-- a word whose octets were turned has them
pub turned-octets : (octets : List ℕ) (word t : ℕ) → octets ≡ bytes_high_first 8 word → t ≡ from_le_bytes w64 octets
    → to_le_bytes w64 t ≡ octets
turned-octets octets word t e is =
    le_bytes_8 octets t (ap (λ (l : List ℕ). length l) e) (λ i. rw e (high_first-small 8 word i)) is

-- it has no digit where the octet in which zeros begin has one
pub begun-sum : (dst octets : List ℕ) (o t word place : ℕ) → o ≡ get_or dst (place / 8) 0 → o < 256
    → IsZeroFrom place (bits dst) → place / 8 + 8 ≤ length dst → octets ≡ bytes_high_first 8 word
    → t ≡ from_le_bytes w64 octets → word < 2 ^ (64 - place % 8)
    → bit_or o t ≡ o + t
begun-sum dst octets o t word place is small z room e f below =
    let k = 8 - place % 8 in
    let n : 64 - place % 8 ≡ k + 56 = omega arith in
    let first : t % 256 ≡ byte_at 7 word =
    ap (λ (l : List ℕ). get_or l 0 0) (turned-octets octets word t e f ∙ e) in
    let high : word / 2 ^ 56 < 2 ^ k = shr_below word k 56 (rw (sym (ap (λ (m : ℕ). 2 ^ m) n)) below) in
    begun-apart o (number (take (place % 8) (drop (8 * (place / 8)) (bits dst)))) k t
    (begun-octet dst o place is small z (omega (arith, room))) small
    (rw (first ∙ byte_at_is 7 word) (omega (arith, high)))

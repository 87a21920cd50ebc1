-- Lemmas on the last octets of a word that are the shortest of a number.
use Rattle.std.proofs.Common.{◌≡◌, ℕ, zero, suc, ◌+◌, ◌-◌, ◌*◌, ◌/◌, ◌%◌, ◌^◌, ◌<◌, ◌≤◌, ℤ, pos, negsuc, ◌++◌, length, drop, refl, sym, ap, subst, ◌∙◌, arith, ⊎_elim}
use Rattle.std.proofs.Math.Nat.{pow-suc, suc-mul, one-le-pow, pow-le-pow_right, div-add-mod', div-div-eq-div-mul}
use Rattle.std.proofs.lemmas.Nat.{pow-add, leading_top, same_from_place, mod_below}
use Rattle.std.specs.Prelude.{nat_le}
use Rattle.std.specs.List.{prefix_len, range_with_len}
use Rattle.std.proofs.lemmas.Bool.{cases_lt, lt-ltb, le-ltb}
use Rattle.std.specs.Int.{byte_at, bytes_high_first, to_be_bytes, w64, w128}
use Rattle.std.specs.Int.Count.{count_leading_zeros}
use lib.Signed.{mag}
use mir.Val.{SFits, of_z, to_z, sel}
use Rattle.asn1_number.specs.Octets.{unsigned}
use Rattle.asn1_number.specs.Shortest.{octets_past_first, residue_at, shortest_octets}
use Rattle.asn1_number.specs.Laws.OctetLaws.{unsigned_below, unsigned_once, power_step}
use Rattle.asn1_number.specs.Laws.WidthLaws.{byte_at_is, length-bytes, octets_of_bytes, unsigned-bytes, unsigned-bytes_and_rest}
use Rattle.asn1_number.specs.Laws.ReadingLaws.{half_of_bits}
use Rattle.asn1_number.specs.Laws.ShortestLaws.{past_first_only, past_first_enough, past_first_few}

-- ---- the bytes of a word

drop-bytes : (s m size n : ℕ) → s + m ≡ size → drop s (bytes_high_first size n) ≡ bytes_high_first m n
drop-bytes zero m size n e = ap (λ (k : ℕ). bytes_high_first k n) (let f : size ≡ m = omega arith in f)
drop-bytes (suc s) m zero n e = absurd (omega arith)
drop-bytes (suc s) m (suc size) n e = drop-bytes s m size n (omega arith)

bytes-cat : (m k size n : ℕ) → m + k ≡ size
    → bytes_high_first size n ≡ bytes_high_first m (n / 256 ^ k) ++ bytes_high_first k n
bytes-cat zero k size n e = ap (λ (j : ℕ). bytes_high_first j n) (let f : size ≡ k = omega arith in f)
bytes-cat (suc m) k zero n e = absurd (omega arith)
bytes-cat (suc m) k (suc size) n e =
    let l : size ≡ k + m = omega arith in
    let p : 256 ^ size ≡ 256 ^ k * 256 ^ m = ap (λ (j : ℕ). 256 ^ j) l ∙ pow-add 256 k m in
    let first : byte_at size n ≡ byte_at m (n / 256 ^ k) =
    byte_at_is size n ∙ (ap (λ x. n / x % 256) p
    ∙ (ap (λ x. x % 256) (sym (div-div-eq-div-mul n (256 ^ k) (256 ^ m))) ∙ sym (byte_at_is m (n / 256 ^ k)))) in
    let rest = bytes-cat m k size n (omega arith) in
    cc (first, rest)

-- the bytes of a number depend on its residue alone
bytes_by_residue : (k n r a : ℕ) → n ≡ a * 256 ^ k + r → r < 256 ^ k → bytes_high_first k n ≡ bytes_high_first k r
bytes_by_residue k n r a e l =
    let small : unsigned (bytes_high_first k n) < 256 ^ k =
    subst (λ (j : ℕ). unsigned (bytes_high_first k n) < 256 ^ j) (length-bytes k n)
    (unsigned_below (bytes_high_first k n) (octets_of_bytes k n)) in
    let both =
    same_from_place (n / 256 ^ k) (unsigned (bytes_high_first k n)) a r (256 ^ k) small l
    (omega (arith, unsigned-bytes_and_rest k n)) in
    unsigned_once (bytes_high_first k n) (bytes_high_first k r) (octets_of_bytes k n) (octets_of_bytes k r)
    (length-bytes k n ∙ sym (length-bytes k r)) (both.1 ∙ sym (unsigned-bytes k r l))

pub two_words : (n : ℕ) → to_be_bytes w64 (n / 2 ^ 64) ++ to_be_bytes w64 (n % 2 ^ 64) ≡ to_be_bytes w128 n
two_words n =
    let low : bytes_high_first 8 n ≡ bytes_high_first 8 (n % 2 ^ 64) =
    bytes_by_residue 8 n (n % 2 ^ 64) (n / 2 ^ 64) (sym (div-add-mod' n (2 ^ 64)))
    (mod_below n (2 ^ 64) (omega arith)) in
    ap (λ o. bytes_high_first 8 (n / 2 ^ 64) ++ o) (sym low) ∙ sym (bytes-cat 8 8 16 n refl)

-- ---- the shortest octets of a number at the end of a word

bytes-residue : (m size : ℕ) (z : ℤ) → m ≤ size → mag z < 256 ^ m
    → bytes_high_first m (residue_at size z) ≡ bytes_high_first m (residue_at m z)
bytes-residue m size (pos n) l h = refl
bytes-residue m size (negsuc n) l h =
    let p : 256 ^ size ≡ 256 ^ (size - m) * 256 ^ m =
    ap (λ (j : ℕ). 256 ^ j) (let e : size ≡ size - m + m = omega arith in e) ∙ pow-add 256 (size - m) m in
    let one : 1 ≤ 256 ^ (size - m) = one-le-pow (size - m) 256 (omega arith) in
    let q : 256 ^ (size - m) * 256 ^ m ≡ suc (256 ^ (size - m) - 1) * 256 ^ m =
    ap (λ x. x * 256 ^ m) (let e : 256 ^ (size - m) ≡ suc (256 ^ (size - m) - 1) = omega arith in e) in
    bytes_by_residue m (256 ^ size - suc n) (256 ^ m - suc n) (256 ^ (size - m) - 1)
    (omega (arith, p, q, suc-mul (256 ^ (size - m) - 1) (256 ^ m))) (omega arith)

pub end_of_word : (size s n : ℕ) (z : ℤ) → s + length (shortest_octets z) ≡ size → n ≡ residue_at size z
    → drop s (bytes_high_first size n) ≡ shortest_octets z
unfolding shortest_octets
end_of_word size s n z e r =
    let k : ℕ = octets_past_first z in
    let l : s + suc k ≡ size = ap (λ x. s + x) (sym (length-bytes (suc k) (residue_at (suc k) z))) ∙ e in
    let enough : mag z < 256 ^ suc k = omega (arith, past_first_enough z, power_step k) in
    drop-bytes s (suc k) size n l ∙ (ap (bytes_high_first (suc k)) r
    ∙ bytes-residue (suc k) size z (omega arith) enough)

-- a number's bits are its residue
pub residue_64 : (z : ℤ) → of_z w64 z ≡ residue_at 8 z
residue_64 (pos n) = refl
residue_64 (negsuc n) = refl

pub residue_128 : (z : ℤ) → of_z w128 z ≡ residue_at 16 z
residue_128 (pos n) = refl
residue_128 (negsuc n) = refl

-- ---- how many there are

-- the leading zeros of twice the distance and 1 count the octets, by eight
pub spare_octets : (size : ℕ) (z : ℤ) → 2 * mag z + 1 < 2 ^ (8 * size)
    → count_leading_zeros (8 * size) (2 * mag z + 1) / 8 + length (shortest_octets z) ≡ size
unfolding shortest_octets
spare_octets size z h =
    let t = leading_top (8 * size) (2 * mag z + 1) (omega arith) h in
    let q : ℕ = count_leading_zeros (8 * size) (2 * mag z + 1) / 8 in
    let d = div-add-mod' (count_leading_zeros (8 * size) (2 * mag z + 1)) 8 in
    let b = mod_below (count_leading_zeros (8 * size) (2 * mag z + 1)) 8 (omega arith) in
    let k : ℕ = size - 1 - q in
    let top : t.0 ≤ 8 * k + 7 = omega (arith, t.1) in
    let low : 8 * k ≤ t.0 = omega (arith, t.1) in
    let enough : mag z < 128 * 256 ^ k =
    let p : 2 ^ t.0 ≤ 2 ^ (8 * suc k - 1) =
    pow-le-pow_right (omega arith) {i = t.0} {j = 8 * suc k - 1} (omega arith) in
    omega (arith, p, half_of_bits k, t.2, t.3, pow-suc 2 t.0) in
    let few : (i : ℕ) → i < k → 128 * 256 ^ i ≤ mag z = λ i l.
    let p : 2 ^ (8 * suc i) ≤ 2 ^ t.0 = pow-le-pow_right (omega arith) {i = 8 * suc i} {j = t.0} (omega arith) in
    let e : 2 ^ (8 * suc i) ≡ 2 ^ suc (8 * suc i - 1) =
    ap (λ (j : ℕ). 2 ^ j) (let f : 8 * suc i ≡ suc (8 * suc i - 1) = omega arith in f) in
    omega (arith, p, e, pow-suc 2 (8 * suc i - 1), half_of_bits i, t.2, t.3) in
    let same : k ≡ octets_past_first z = past_first_only k z enough few in
    omega (arith, t.1, length-bytes (suc (octets_past_first z)) (residue_at (suc (octets_past_first z)) z))

-- as many octets for numbers that are as far from 0 and -1
same_length : (z y : ℤ) → mag z ≡ mag y → length (shortest_octets z) ≡ length (shortest_octets y)
unfolding shortest_octets
same_length z y e =
    length-bytes (suc (octets_past_first z)) (residue_at (suc (octets_past_first z)) z)
    ∙ (ap (λ m. suc (prefix_len (λ k. nat_le (128 * 256 ^ k) m) (range_with_len 0 (suc m)))) e
    ∙ sym (length-bytes (suc (octets_past_first y)) (residue_at (suc (octets_past_first y)) y)))

-- the high word of a number is as far from 0 and -1 as the number, in words
high_word : (z : ℤ) → SFits w128 z → mag (to_z w64 (of_z w128 z / 2 ^ 64)) ≡ mag z / 2 ^ 64
high_word (pos n) f =
    let d = div-add-mod' n (2 ^ 64) in
    ap (λ t. mag (sel t (pos (n / 2 ^ 64)) (negsuc (2 ^ 64 - suc (n / 2 ^ 64)))))
    (lt-ltb (n / 2 ^ 64) (2 ^ 63) (omega (arith, f.sfits)))
high_word (negsuc n) f =
    let d = div-add-mod' n (2 ^ 64) in
    let b = mod_below n (2 ^ 64) (omega arith) in
    let d' = div-add-mod' (2 ^ 128 - suc n) (2 ^ 64) in
    let b' = mod_below (2 ^ 128 - suc n) (2 ^ 64) (omega arith) in
    let q : (2 ^ 128 - suc n) / 2 ^ 64 + suc (n / 2 ^ 64) ≡ 2 ^ 64 = omega (arith, f.sfits) in
    ap (λ t. mag (sel t (pos ((2 ^ 128 - suc n) / 2 ^ 64)) (negsuc (2 ^ 64 - suc ((2 ^ 128 - suc n) / 2 ^ 64)))))
    (le-ltb ((2 ^ 128 - suc n) / 2 ^ 64) (2 ^ 63) (omega (arith, f.sfits))) ∙ omega arith

-- eight octets more than for its high word, where a number takes more than one
pub length_past_word : (z : ℤ) → SFits w128 z → 2 ^ 63 ≤ mag z
    → length (shortest_octets z) ≡ 8 + length (shortest_octets (to_z w64 (of_z w128 z / 2 ^ 64)))
unfolding shortest_octets
length_past_word z f h =
    let y : ℤ = pos (mag z / 2 ^ 64) in
    let k : ℕ = octets_past_first y in
    let d = div-add-mod' (mag z) (2 ^ 64) in
    let b = mod_below (mag z) (2 ^ 64) (omega arith) in
    let p : 256 ^ (8 + k) ≡ 256 ^ 8 * 256 ^ k = pow-add 256 8 k in
    let enough : mag z < 128 * 256 ^ (8 + k) = omega (arith, p, past_first_enough y) in
    let few : (i : ℕ) → i < 8 + k → 128 * 256 ^ i ≤ mag z = λ i l.
    ⊎_elim (λ s.
    let q : 256 ^ i ≤ 256 ^ 7 = pow-le-pow_right (omega arith) {i = i} {j = 7} (omega arith) in omega arith)
    (λ s.
    let q : 256 ^ i ≡ 256 ^ 8 * 256 ^ (i - 8) =
    ap (λ (j : ℕ). 256 ^ j) (let e : i ≡ 8 + (i - 8) = omega arith in e) ∙ pow-add 256 8 (i - 8) in
    let r = past_first_few y (i - 8) (omega arith) in omega arith)
    (cases_lt i 8) in
    let same : 8 + k ≡ octets_past_first z = past_first_only (8 + k) z enough few in
    omega (
      arith,
      length-bytes (suc (octets_past_first z)) (residue_at (suc (octets_past_first z)) z),
      length-bytes (suc k) (residue_at (suc k) y),
      same_length (to_z w64 (of_z w128 z / 2 ^ 64)) y (high_word z f),
    )

-- Lemmas on what the types read.
use Rattle.std.proofs.Common.{◌≡◌, ℕ, zero, suc, ◌+◌, ◌-◌, ◌*◌, ◌^◌, ◌<◌, ◌≤◌, ℤ, pos, neg_ℤ, List, [], ◌∷◌, length, get_or, drop, refl, sym, ap, subst, ◌∙◌, arith, ⊎_elim, ◌⊎◌, inl, inr, Ok}
use Rattle.std.proofs.Math.Nat.{pow-le-pow_right, pow-suc, mul-le-mul_right}
use Rattle.std.proofs.lemmas.Bool.{cond-true, cond-false, le-ltb, lt-leb, eq-eqb, ne_eqb, cases_lt}
use Rattle.std.proofs.lemmas.Nat.{pow-add}
use lib.Dec.{ltb, leb, eqb}
use borrow.Author.Differences.{up, down, lt_out, le_out, neg_is, at_most_in, below_in}
use Rattle.asn1_number.specs.Octets.{IsOctets, unsigned, signed, IsShortest}
use Rattle.asn1_number.specs.Order.{NineBitsDiffer}
use Rattle.asn1_number.specs.Readings.{SignedOf, UnsignedOf, Unbounded, IsInRange, signed_reading, counted_length}
use Rattle.asn1_number.specs.Laws.OctetLaws.{signed_outside, one_part, low_parts, high_parts, signed_low, unsigned-cons, unsigned_below, unsigned-zero_first, nine_bits_from_shortest, shortest_from_nine_bits}

-- more than sixteen octets with none to spare lie outside `i128`
pub past_sixteen : (o : List ℕ) → IsOctets o → NineBitsDiffer o → 16 < length o → IsInRange (SignedOf 16) (signed o) → ⊥
past_sixteen [] h d l r = d
past_sixteen (b ∷ []) h d l r = omega arith
past_sixteen (b ∷ c ∷ bs) h d l r =
    let p : 256 ^ 15 ≤ 256 ^ length bs = pow-le-pow_right (omega arith) {i = 15} {j = length bs} (omega arith) in
    let low = le_out (neg_ℤ (pos (2 ^ 127))) (signed (b ∷ c ∷ bs)) r.0 in
    let high = lt_out (signed (b ∷ c ∷ bs)) (pos (2 ^ 127)) r.1 in
    let one = one_part (signed (b ∷ c ∷ bs)) in
    ⊎_elim (λ big. ⊎_elim (λ z. omega arith) (λ z. omega arith) one)
    (λ big. ⊎_elim (λ z. omega arith) (λ z. omega arith) one) (signed_outside b c bs h d)

-- ---- the cases of the table that read a value

pub signed_is_read : (size b : ℕ) (bs : List ℕ) → length (b ∷ bs) ≤ size
    → signed_reading (SignedOf size) (b ∷ bs) ≡ Ok (signed (b ∷ bs))
unfolding signed_reading
signed_is_read size b bs h = cond-false (ltb size (length (b ∷ bs))) _ _ (le-ltb _ _ h)

pub unsigned_is_read : (size b : ℕ) (bs : List ℕ) → b < 128 → counted_length (b ∷ bs) ≤ size
    → signed_reading (UnsignedOf size) (b ∷ bs) ≡ Ok (signed (b ∷ bs))
unfolding signed_reading
unsigned_is_read size b bs h l = cond-false (leb 128 b) _ _ (lt-leb 128 b h)
    ∙ cond-false (ltb size (counted_length (b ∷ bs))) _ _ (le-ltb _ _ l)

-- ---- powers

pub power_of_bits : (n : ℕ) → 256 ^ n ≡ 2 ^ (8 * n)
power_of_bits zero = refl
power_of_bits (suc n) =
    let e : 8 * suc n ≡ 8 * n + 8 = omega arith in
    let s = pow-suc 256 n in
    let a : 2 ^ (8 * n + 8) ≡ 2 ^ (8 * n) * 2 ^ 8 = pow-add 2 (8 * n) 8 in
    let f : 2 ^ (8 * suc n) ≡ 2 ^ (8 * n + 8) = ap (λ (k : ℕ). 2 ^ k) e in
    omega (arith, power_of_bits n)

pub half_of_bits : (n : ℕ) → 2 ^ (8 * suc n - 1) ≡ 128 * 256 ^ n
half_of_bits n =
    let e : 8 * suc n - 1 ≡ 8 * n + 7 = omega arith in
    let a : 2 ^ (8 * n + 7) ≡ 2 ^ (8 * n) * 2 ^ 7 = pow-add 2 (8 * n) 7 in
    let f : 2 ^ (8 * suc n - 1) ≡ 2 ^ (8 * n + 7) = ap (λ (k : ℕ). 2 ^ k) e in
    omega (arith, power_of_bits n)

pub cases_le : (m n : ℕ) → (m ≤ n) ⊎ (n < m)
cases_le m n = ⊎_elim inr inl (cases_lt n m)

-- ---- the law

pub signed_law : (size : ℕ) (n : ℤ) (o : List ℕ) → 1 ≤ size → IsInRange (SignedOf size) n → IsShortest n o
    → signed_reading (SignedOf size) o ≡ Ok n
signed_law size n [] p r s = let some = s.some in absurd (omega arith)
signed_law zero n (b ∷ bs) p r s = absurd (omega arith)
signed_law (suc k) n (b ∷ []) p r s = signed_is_read (suc k) b [] (omega arith) ∙ ap Ok s.value
signed_law (suc k) n (b ∷ c ∷ bs) p r s =
    ⊎_elim (λ l. absurd (clash l)) (λ l. signed_is_read (suc k) b (c ∷ bs) l ∙ ap Ok s.value)
    (cases_lt (suc k) (length (b ∷ c ∷ bs)))
  where
    clash : suc k < length (b ∷ c ∷ bs) → ⊥
    clash l =
        let q : 256 ^ k ≤ 256 ^ length bs = pow-le-pow_right (omega arith) {i = k} {j = length bs} (omega arith) in
        let h = half_of_bits k in
        let eu : up (signed (b ∷ c ∷ bs)) ≡ up n = ap up s.value in
        let ed : down (signed (b ∷ c ∷ bs)) ≡ down n = ap down s.value in
        let one = one_part n in
        let low = le_out (neg_ℤ (pos (2 ^ (8 * suc k - 1)))) n r.0 in
        let high = lt_out n (pos (2 ^ (8 * suc k - 1))) r.1 in
        let m = neg_is (pos (2 ^ (8 * suc k - 1))) in
        ⊎_elim (λ big. ⊎_elim (λ z. omega arith) (λ z. omega arith) one)
        (λ big. ⊎_elim (λ z. omega arith) (λ z. omega arith) one)
        (signed_outside b c bs s.octets (nine_bits_from_shortest n (b ∷ c ∷ bs) s))

pub unsigned_law : (size : ℕ) (n : ℤ) (o : List ℕ) → 1 ≤ size → IsInRange (UnsignedOf size) n → IsShortest n o
    → signed_reading (UnsignedOf size) o ≡ Ok n
unsigned_law size n [] p r s = let some = s.some in absurd (omega arith)
unsigned_law size n (b ∷ bs) p r s =
    ⊎_elim (λ i. unsigned_is_read size b bs i (fits i) ∙ ap Ok s.value) (λ i. absurd (negative i)) (cases_lt b 128)
  where
    low : down n ≤ up n
    low = omega (arith, le_out (pos 0) n r.0)

    high : up n < down n + 2 ^ (8 * size)
    high = omega (arith, lt_out n (pos (2 ^ (8 * size))) r.1)

    negative : 128 ≤ b → ⊥
    negative i =
        let e = high_parts b bs s.octets i in
        let w = unsigned_below (b ∷ bs) s.octets in
        let eu : up (signed (b ∷ bs)) ≡ up n = ap up s.value in
        let ed : down (signed (b ∷ bs)) ≡ down n = ap down s.value in
        omega (arith, low)

    fits : b < 128 → counted_length (b ∷ bs) ≤ size
    fits i = ⊎_elim (zero_first bs s) some_first (cases_lt b 1)
      where
        value : (up n ≡ unsigned (b ∷ bs)) × (down n ≡ 0)
        value = let e = low_parts b bs i in (sym (ap up s.value) ∙ e.0, sym (ap down s.value) ∙ e.1)

        bound : unsigned (b ∷ bs) < 256 ^ size
        bound = omega (arith, value, high, power_of_bits size)

        counted : (xs : List ℕ) → b ≡ 0 → counted_length (b ∷ xs) ≡ length xs
        counted xs z = cond-true (eqb b 0) (length xs) (length (b ∷ xs)) (eq-eqb b 0 z)

        some_first : 1 ≤ b → counted_length (b ∷ bs) ≤ size
        some_first z =
            let u = unsigned-cons b bs in
            let big : 1 * 256 ^ length bs ≤ b * 256 ^ length bs = mul-le-mul_right (256 ^ length bs) z in
            let short : length (b ∷ bs) ≤ size =
            ⊎_elim (λ l. l)
            (λ l. absurd (let q : 256 ^ size ≤ 256 ^ length bs =
            pow-le-pow_right (omega arith) {i = size} {j = length bs} (omega arith) in omega (arith, bound)))
            (cases_le (length (b ∷ bs)) size) in
            subst (λ t. t ≤ size)
            (sym (cond-false (eqb b 0) (length bs) (length (b ∷ bs)) (ne_eqb b 0 (λ e. omega arith)))) short

        zero_first : (xs : List ℕ) → IsShortest n (b ∷ xs) → b < 1 → counted_length (b ∷ xs) ≤ size
        zero_first [] t z = subst (λ k. k ≤ size) (sym (counted [] (omega arith))) (omega arith)
        zero_first (c ∷ cs) t z =
            let zero : b ≡ 0 = omega arith in
            let e = low_parts b (c ∷ cs) i in
            let eu : up (signed (b ∷ c ∷ cs)) ≡ up n = ap up t.value in
            let u = unsigned-cons b (c ∷ cs) in
            let v = unsigned-cons c cs in
            let big : 128 * 256 ^ length cs ≤ c * 256 ^ length cs =
            mul-le-mul_right (256 ^ length cs) ((nine_bits_from_shortest n (b ∷ c ∷ cs) t).0 zero) in
            let short : length (c ∷ cs) ≤ size =
            ⊎_elim (λ l. l)
            (λ l. absurd (let q : 256 ^ size ≤ 256 ^ length cs =
            pow-le-pow_right (omega arith) {i = size} {j = length cs} (omega arith) in omega
            (arith, low, high, power_of_bits size, value)))
            (cases_le (length (c ∷ cs)) size) in
            subst (λ k. k ≤ size) (sym (counted (c ∷ cs) zero)) short

pub unbounded_law : (n : ℤ) (o : List ℕ) → IsShortest n o → signed_reading Unbounded o ≡ Ok n
unfolding signed_reading
unbounded_law n [] s = let some = s.some in absurd (omega arith)
unbounded_law n (b ∷ bs) s = ap Ok s.value

-- ---- `Integer` from unsigned octets

pub zero_in_front : (o : List ℕ) → IsOctets o → 0 < length o → 128 ≤ get_or o 0 0
    → IsShortest (pos (unsigned o)) (0 ∷ o)
zero_in_front [] h some l = absurd (omega arith)
zero_in_front (b ∷ bs) h some l =
    let value : signed (0 ∷ b ∷ bs) ≡ pos (unsigned (b ∷ bs)) = signed_low 0 (b ∷ bs) (omega arith)
    ∙ ap pos (unsigned-zero_first (b ∷ bs)) in
    subst (λ z. IsShortest z (0 ∷ b ∷ bs)) value
    (shortest_from_nine_bits (0 ∷ b ∷ bs) (omega arith, h) (λ e. l, λ e. absurd (omega arith)))

pub fifteen_fit : (o : List ℕ) → IsOctets o → length o < 16 → unsigned o < 2 ^ 127
fifteen_fit o h l =
    let w = unsigned_below o h in
    let p : 256 ^ length o ≤ 256 ^ 15 = pow-le-pow_right (omega arith) {i = length o} {j = 15} (omega arith) in
    omega arith

-- more than sixteen octets with none to spare lie outside `u128` too, but for seventeen that begin
-- with zero
pub past_u128 : (o : List ℕ) → IsOctets o → NineBitsDiffer o → 16 < length o → (length o ≡ 17 → get_or o 0 0 ≡ 0 → ⊥)
    → IsInRange (UnsignedOf 16) (signed o) → ⊥
past_u128 [] h d l z r = d
past_u128 (b ∷ []) h d l z r = omega arith
past_u128 (b ∷ c ∷ bs) h d l z r = ⊎_elim low high (cases_lt b 128)
  where
    most : up (signed (b ∷ c ∷ bs)) < down (signed (b ∷ c ∷ bs)) + 2 ^ 128
    most = omega (arith, lt_out (signed (b ∷ c ∷ bs)) (pos (2 ^ 128)) r.1)

    least : down (signed (b ∷ c ∷ bs)) ≤ up (signed (b ∷ c ∷ bs))
    least = omega (arith, le_out (pos 0) (signed (b ∷ c ∷ bs)) r.0)

    high : 128 ≤ b → ⊥
    high i = omega (arith, least, high_parts b (c ∷ bs) h i, unsigned_below (b ∷ c ∷ bs) h)

    low : b < 128 → ⊥
    low i = ⊎_elim zero_first some_first (cases_lt b 1)
      where
        zero_first : b < 1 → ⊥
        zero_first k =
            let longer : 17 < length (b ∷ c ∷ bs) =
            ⊎_elim (λ m. m) (λ m. absurd (z (omega arith) (omega arith))) (cases_lt 17 (length (b ∷ c ∷ bs))) in
            let p : 256 ^ 16 ≤ 256 ^ length bs =
            pow-le-pow_right (omega arith) {i = 16} {j = length bs} (omega arith) in
            let big : 128 * 256 ^ length bs ≤ c * 256 ^ length bs =
            mul-le-mul_right (256 ^ length bs) (d.0 (omega arith)) in
            omega (arith, most, low_parts b (c ∷ bs) i, unsigned-cons b (c ∷ bs), unsigned-cons c bs)

        some_first : 1 ≤ b → ⊥
        some_first k =
            let p : 256 ^ 16 ≤ 256 ^ length (c ∷ bs) =
            pow-le-pow_right (omega arith) {i = 16} {j = length (c ∷ bs)} (omega arith) in
            let big : 1 * 256 ^ length (c ∷ bs) ≤ b * 256 ^ length (c ∷ bs) =
            mul-le-mul_right (256 ^ length (c ∷ bs)) k in
            omega (arith, most, low_parts b (c ∷ bs) i, unsigned-cons b (c ∷ bs))

-- seventeen octets that begin with zero encode what the other sixteen do as unsigned
pub zero_then_sixteen : (o rest : List ℕ) → 0 < length o → get_or o 0 0 ≡ 0 → rest ≡ drop 1 o
    → signed o ≡ pos (unsigned rest)
zero_then_sixteen [] rest l z e = absurd (omega arith)
zero_then_sixteen (b ∷ bs) rest l z e =
    signed_low b bs (omega arith) ∙ ap pos
    (ap (λ x. unsigned (x ∷ bs)) z ∙ (unsigned-zero_first bs ∙ ap unsigned (sym e)))

-- a first octet below 128 is no sign
pub low_value : (o : List ℕ) → 0 < length o → get_or o 0 0 < 128 → signed o ≡ pos (unsigned o)
low_value [] some l = absurd (omega arith)
low_value (b ∷ bs) some l = signed_low b bs l

-- a kept list of more than sixteen octets encodes no `u128`, unless it is a zero octet and sixteen
-- others
pub spells_no_u128 : (n : ℤ) (o s : List ℕ) → s ≡ o → signed o ≡ n → IsShortest (signed o) o → 16 < length o
    → (length s ≡ 17 → get_or s 0 0 ≡ 0 → ⊥) → IsInRange (UnsignedOf 16) n → ⊥
spells_no_u128 n o s e v k l d r =
    past_u128 o k.octets (nine_bits_from_shortest _ _ k) l (subst (λ t. length t ≡ 17 → get_or t 0 0 ≡ 0 → ⊥) e d)
    (subst (IsInRange (UnsignedOf 16)) (sym v) r)

pub spells_u128 : (n : ℤ) (o s rest : List ℕ) (r : ℕ) → s ≡ o → signed o ≡ n → 0 < length s → get_or s 0 0 ≡ 0
    → rest ≡ drop 1 s → r ≡ unsigned rest → r < 2 ^ 128 → (pos r ≡ n) × IsInRange (UnsignedOf 16) n
spells_u128 n o s rest r e v l z d u small =
    let value : pos r ≡ n = ap pos u ∙ (sym (zero_then_sixteen s rest l z d) ∙ (ap signed e ∙ v)) in (
      value,
      subst (IsInRange (UnsignedOf 16)) value
          (at_most_in (pos 0) (pos r) (omega arith), below_in (pos r) (pos (2 ^ 128)) (omega arith)),
    )

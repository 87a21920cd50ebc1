-- Lemmas on what octets encode.
use Rattle.std.proofs.Common.{◌≡◌, ℕ, zero, suc, ◌+◌, ◌-◌, ◌*◌, ◌^◌, ◌<◌, ◌≤◌, ℤ, pos, negsuc, ◌-ℤ◌, neg_ℤ, List, [], ◌∷◌, length, get_or, drop, refl, sym, ap, subst, ◌∙◌, ◌⊎◌, inl, inr, arith, ⊎_elim}
use Rattle.std.proofs.Math.Nat.{pow-suc, mul-le-mul_right, one-le-pow, pow-le-pow_right}
use Rattle.std.proofs.lemmas.List.{drop-drop}
use Rattle.std.proofs.Common.{length-drop}
use Rattle.std.proofs.lemmas.Nat.{mul-add-lt, same_from_place}
use Rattle.std.proofs.lemmas.Int.{ints}
use Rattle.std.proofs.lemmas.Bool.{cases_lt, cond-true, cond-false, lt-ltb, le-ltb}
use lib.Dec.{ltb}
use borrow.Author.Differences.{up, down, sum_is_lem, neg_is}
use Rattle.asn1_number.specs.Octets.{IsOctets, unsigned, signed, IsShortest, IsShortestUnsigned}
use Rattle.asn1_number.specs.Order.{NineBitsDiffer}

pub unsigned-cons : (b : ℕ) (bs : List ℕ) → unsigned (b ∷ bs) ≡ b * 256 ^ length bs + unsigned bs
unfolding unsigned
unsigned-cons b bs = refl

pub unsigned_nil : unsigned [] ≡ 0
unfolding unsigned
unsigned_nil = refl

pub unsigned_below : (o : List ℕ) → IsOctets o → unsigned o < 256 ^ length o
unfolding unsigned
unsigned_below [] h = omega arith
unsigned_below (b ∷ bs) h =
    omega (arith, pow-suc 256 (length bs), mul-add-lt b (256 ^ length bs) (unsigned bs) 256 h.0 (unsigned_below bs h.1))

pub signed_low : (b : ℕ) (bs : List ℕ) → b < 128 → signed (b ∷ bs) ≡ pos (unsigned (b ∷ bs))
unfolding signed
signed_low b bs h = cond-true (ltb b 128) _ _ (lt-ltb b 128 h)

pub signed_high : (b : ℕ) (bs : List ℕ) → 128 ≤ b
    → signed (b ∷ bs) ≡ pos (unsigned (b ∷ bs)) -ℤ pos (256 ^ length (b ∷ bs))
unfolding signed
signed_high b bs h = cond-false (ltb b 128) _ _ (le-ltb b 128 h)

-- a number has no part below zero, or none above it
pub one_part : (z : ℤ) → (up z ≡ 0) ⊎ (down z ≡ 0)
one_part (negsuc below) = inl (omega arith)
one_part (pos above) = inr (omega arith)

below_zero : (u n : ℕ) → u < n → (up (pos u -ℤ pos n) ≡ 0) × (down (pos u -ℤ pos n) + u ≡ n)
below_zero u n h =
    let s = sum_is_lem (pos u) (neg_ℤ (pos n)) in
    let k = neg_is (pos n) in
    ⊎_elim (λ e. (e, omega arith)) (λ e. absurd (omega arith)) (one_part (pos u -ℤ pos n))

-- what the positive and the negative part of the value are
pub low_parts : (b : ℕ) (bs : List ℕ) → b < 128 → (up (signed (b ∷ bs)) ≡ unsigned (b ∷ bs))
    × (down (signed (b ∷ bs)) ≡ 0)
low_parts b bs h = (ap up (signed_low b bs h), ap down (signed_low b bs h))

pub high_parts : (b : ℕ) (bs : List ℕ) → IsOctets (b ∷ bs) → 128 ≤ b → (up (signed (b ∷ bs)) ≡ 0)
    × (down (signed (b ∷ bs)) + unsigned (b ∷ bs) ≡ 256 ^ length (b ∷ bs))
high_parts b bs o h =
    let e = below_zero (unsigned (b ∷ bs)) (256 ^ length (b ∷ bs)) (unsigned_below (b ∷ bs) o) in
    (ap up (signed_high b bs h) ∙ e.0, ap (λ z. down z + unsigned (b ∷ bs)) (signed_high b bs h) ∙ e.1)

pub power_step : (n : ℕ) → 256 ^ suc n ≡ 256 * 256 ^ n
power_step n = omega (arith, pow-suc 256 n)

-- a value of n octets lies from -128 * 256 ^ (n - 1) on, below 128 * 256 ^ (n - 1)
pub signed_range : (b : ℕ) (bs : List ℕ) → IsOctets (b ∷ bs) → (up (signed (b ∷ bs)) < 128 * 256 ^ length bs)
    × (down (signed (b ∷ bs)) ≤ 128 * 256 ^ length bs)
signed_range b bs o = ⊎_elim low high (cases_lt b 128)
  where
    p : ℕ
    p = 256 ^ length bs

    low : b < 128 → (up (signed (b ∷ bs)) < 128 * 256 ^ length bs) × (down (signed (b ∷ bs)) ≤ 128 * 256 ^ length bs)
    low h =
        let e = low_parts b bs h in
        let u = unsigned-cons b bs in
        let k = mul-add-lt b (256 ^ length bs) (unsigned bs) 128 h (unsigned_below bs o.1) in
        (omega arith, omega arith)

    high : 128 ≤ b → (up (signed (b ∷ bs)) < 128 * 256 ^ length bs) × (down (signed (b ∷ bs)) ≤ 128 * 256 ^ length bs)
    high h =
        let e = high_parts b bs o h in
        let u = unsigned-cons b bs in
        let k : 128 * 256 ^ length bs ≤ b * 256 ^ length bs = mul-le-mul_right (256 ^ length bs) h in
        let s = power_step (length bs) in
        let one : 1 ≤ 256 ^ length bs = one-le-pow (length bs) 256 (omega arith) in
        (omega arith, omega arith)

-- where the first nine bits are not all alike, the value lies outside what one octet less can encode
pub signed_outside : (b c : ℕ) (bs : List ℕ) → IsOctets (b ∷ c ∷ bs) → NineBitsDiffer (b ∷ c ∷ bs) →
    (128 * 256 ^ length bs ≤ up (signed (b ∷ c ∷ bs))) ⊎ (128 * 256 ^ length bs < down (signed (b ∷ c ∷ bs)))
signed_outside b c bs o d = ⊎_elim low high (cases_lt b 128)
  where
    u1 : unsigned (b ∷ c ∷ bs) ≡ b * 256 ^ length (c ∷ bs) + unsigned (c ∷ bs)
    u1 = unsigned-cons b (c ∷ bs)

    u2 : unsigned (c ∷ bs) ≡ c * 256 ^ length bs + unsigned bs
    u2 = unsigned-cons c bs

    s1 : 256 ^ length (c ∷ bs) ≡ 256 * 256 ^ length bs
    s1 = power_step (length bs)

    s2 : 256 ^ length (b ∷ c ∷ bs) ≡ 256 * 256 ^ length (c ∷ bs)
    s2 = power_step (length (c ∷ bs))

    small : unsigned (c ∷ bs) < 256 ^ length (c ∷ bs)
    small = unsigned_below (c ∷ bs) o.1

    low : b < 128 → (128 * 256 ^ length bs ≤ up (signed (b ∷ c ∷ bs))) ⊎
        (128 * 256 ^ length bs < down (signed (b ∷ c ∷ bs)))
    low h = inl (⊎_elim zero_first some_first (cases_lt b 1))
      where
        e : (up (signed (b ∷ c ∷ bs)) ≡ unsigned (b ∷ c ∷ bs)) × (down (signed (b ∷ c ∷ bs)) ≡ 0)
        e = low_parts b (c ∷ bs) h

        zero_first : b < 1 → 128 * 256 ^ length bs ≤ up (signed (b ∷ c ∷ bs))
        zero_first z =
            let big : 128 * 256 ^ length bs ≤ c * 256 ^ length bs =
            mul-le-mul_right (256 ^ length bs) (d.0 (omega arith)) in
            omega (arith, e, u1, u2, big)

        some_first : 1 ≤ b → 128 * 256 ^ length bs ≤ up (signed (b ∷ c ∷ bs))
        some_first z =
            let big : 1 * 256 ^ length (c ∷ bs) ≤ b * 256 ^ length (c ∷ bs) =
            mul-le-mul_right (256 ^ length (c ∷ bs)) z in
            omega (arith, e, u1, s1, big)

    high : 128 ≤ b → (128 * 256 ^ length bs ≤ up (signed (b ∷ c ∷ bs))) ⊎
        (128 * 256 ^ length bs < down (signed (b ∷ c ∷ bs)))
    high h = inr (⊎_elim some_first last_first (cases_lt b 255))
      where
        e : (up (signed (b ∷ c ∷ bs)) ≡ 0)
            × (down (signed (b ∷ c ∷ bs)) + unsigned (b ∷ c ∷ bs) ≡ 256 ^ length (b ∷ c ∷ bs))
        e = high_parts b (c ∷ bs) o h

        some_first : b < 255 → 128 * 256 ^ length bs < down (signed (b ∷ c ∷ bs))
        some_first z =
            let big : b * 256 ^ length (c ∷ bs) ≤ 254 * 256 ^ length (c ∷ bs) =
            mul-le-mul_right (256 ^ length (c ∷ bs)) (omega arith) in
            let one : 1 ≤ 256 ^ length bs = one-le-pow (length bs) 256 (omega arith) in
            omega (arith, e, u1, s1, s2, big, small, one)

        last_first : 255 ≤ b → 128 * 256 ^ length bs < down (signed (b ∷ c ∷ bs))
        last_first z =
            let is : b ≡ 255 = omega (arith, o.0) in
            let big : b * 256 ^ length (c ∷ bs) ≡ 255 * 256 ^ length (c ∷ bs) =
            ap (λ x. x * 256 ^ length (c ∷ bs)) is in
            let few = mul-add-lt c (256 ^ length bs) (unsigned bs) 128 (d.1 is) (unsigned_below bs o.1.1) in
            omega (arith, e, u1, u2, s1, s2, big, few)

-- a first octet that only repeats the sign adds nothing
pub signed-zero_first : (c : ℕ) (bs : List ℕ) → c < 128 → signed (0 ∷ c ∷ bs) ≡ signed (c ∷ bs)
signed-zero_first c bs h =
    signed_low 0 (c ∷ bs) (omega arith) ∙ ap pos (unsigned-cons 0 (c ∷ bs) ∙ omega arith) ∙ sym (signed_low c bs h)

pub signed-ones_first : (c : ℕ) (bs : List ℕ) → 128 ≤ c → signed (255 ∷ c ∷ bs) ≡ signed (c ∷ bs)
signed-ones_first c bs h =
    let s = power_step (length (c ∷ bs)) in
    let u = unsigned-cons 255 (c ∷ bs) in
    signed_high 255 (c ∷ bs) (omega arith) ∙ (omega (arith, ints) ∙ sym (signed_high c bs h))

-- ---- shortest lists

pub shortest_from_nine_bits : (o : List ℕ) → IsOctets o → NineBitsDiffer o → IsShortest (signed o) o
shortest_from_nine_bits [] h d = absurd d
shortest_from_nine_bits (b ∷ []) h d =
    record { octets = h; some = omega arith; value = refl; least = λ other _ some _. omega arith }
shortest_from_nine_bits (b ∷ c ∷ bs) h d = record { octets = h; some = omega arith; value = refl; least = least }
  where
    least : (other : List ℕ) → IsOctets other → 0 < length other → signed other ≡ signed (b ∷ c ∷ bs)
        → length (b ∷ c ∷ bs) ≤ length other
    least [] oh some e = absurd (omega arith)
    least (x ∷ xs) oh some e =
        ⊎_elim (λ l. absurd (clash l)) (λ l. l) (cases_lt (length (x ∷ xs)) (length (b ∷ c ∷ bs)))
      where
        clash : length (x ∷ xs) < length (b ∷ c ∷ bs) → ⊥
        clash l =
            let r = signed_range x xs oh in
            let p : 256 ^ length xs ≤ 256 ^ length bs = pow-le-pow_right (omega arith) (omega arith) in
            let eu = ap up e in
            let ed = ap down e in
            ⊎_elim (λ big. omega arith) (λ big. omega arith) (signed_outside b c bs h d)

pub nine_bits_from_shortest : (n : ℤ) (o : List ℕ) → IsShortest n o → NineBitsDiffer o
nine_bits_from_shortest n [] s = let some = s.some in absurd (omega arith)
nine_bits_from_shortest n (b ∷ []) s = tt
nine_bits_from_shortest n (b ∷ c ∷ bs) s = (zeros, ones)
  where
    zeros : b ≡ 0 → 128 ≤ c
    zeros e = ⊎_elim (λ l. absurd (clash l)) (λ l. l) (cases_lt c 128)
      where
        clash : c < 128 → ⊥
        clash l =
            let v : signed (c ∷ bs) ≡ n = sym (signed-zero_first c bs l)
            ∙ (ap (λ x. signed (x ∷ c ∷ bs)) (sym e) ∙ s.value) in
            let short : length (b ∷ c ∷ bs) ≤ length (c ∷ bs) = s.least (c ∷ bs) s.octets.1 (omega arith) v in
            omega arith

    ones : b ≡ 255 → c < 128
    ones e = ⊎_elim (λ l. l) (λ l. absurd (clash l)) (cases_lt c 128)
      where
        clash : 128 ≤ c → ⊥
        clash l =
            let v : signed (c ∷ bs) ≡ n = sym (signed-ones_first c bs l)
            ∙ (ap (λ x. signed (x ∷ c ∷ bs)) (sym e) ∙ s.value) in
            let short : length (b ∷ c ∷ bs) ≤ length (c ∷ bs) = s.least (c ∷ bs) s.octets.1 (omega arith) v in
            omega arith

pub unsigned_once : (a b : List ℕ) → IsOctets a → IsOctets b → length a ≡ length b → unsigned a ≡ unsigned b → a ≡ b
unsigned_once [] [] h k l e = refl
unsigned_once [] (y ∷ ys) h k l e = absurd (omega arith)
unsigned_once (x ∷ xs) [] h k l e = absurd (omega arith)
unsigned_once (x ∷ xs) (y ∷ ys) h k l e =
    let same : length xs ≡ length ys = omega arith in
    let p : 256 ^ length ys ≡ 256 ^ length xs = ap (λ (n : ℕ). 256 ^ n) (sym same) in
    let q : x * 256 ^ length xs + unsigned xs ≡ y * 256 ^ length xs + unsigned ys =
    sym (unsigned-cons x xs) ∙ (e ∙ (unsigned-cons y ys ∙ ap (λ w. y * w + unsigned ys) p)) in
    let small : unsigned ys < 256 ^ length xs = omega (arith, unsigned_below ys k.1, p) in
    let both = same_from_place x (unsigned xs) y (unsigned ys) (256 ^ length xs) (unsigned_below xs h.1) small q in
    let rest : xs ≡ ys = unsigned_once xs ys h.1 k.1 same both.1 in
    let first : x ≡ y = both.0 in
    cc (first, rest)

-- a number has one shortest list
pub shortest_once : (n : ℤ) (a b : List ℕ) → IsShortest n a → IsShortest n b → a ≡ b
shortest_once n a b s t =
    unsigned_once a b s.octets t.octets same (of_signs a b s.octets t.octets s.some t.some same (s.value ∙ sym t.value))
  where
    same : length a ≡ length b
    same =
        let l : length a ≤ length b = s.least b t.octets t.some t.value in
        let r : length b ≤ length a = t.least a s.octets s.some s.value in
        omega arith

    of_signs : (a b : List ℕ) → IsOctets a → IsOctets b → 0 < length a → 0 < length b → length a ≡ length b
        → signed a ≡ signed b → unsigned a ≡ unsigned b
    of_signs [] b h k p q l e = absurd (omega arith)
    of_signs (x ∷ xs) [] h k p q l e = absurd (omega arith)
    of_signs (x ∷ xs) (y ∷ ys) h k p q l e =
        let eu = ap up e in
        let ed = ap down e in
        let w : 256 ^ length (x ∷ xs) ≡ 256 ^ length (y ∷ ys) = ap (λ (n : ℕ). 256 ^ n) l in
        let bx : unsigned (x ∷ xs) < 256 ^ length (x ∷ xs) = unsigned_below (x ∷ xs) h in
        let by : unsigned (y ∷ ys) < 256 ^ length (y ∷ ys) = unsigned_below (y ∷ ys) k in
        ⊎_elim
        (λ i. ⊎_elim (λ j. omega (arith, low_parts x xs i, low_parts y ys j))
        (λ j. absurd (omega (arith, low_parts x xs i, high_parts y ys k j))) (cases_lt y 128))
        (λ i. ⊎_elim (λ j. absurd (omega (arith, high_parts x xs h i, low_parts y ys j)))
        (λ j. omega (arith, high_parts x xs h i, high_parts y ys k j)) (cases_lt y 128))
        (cases_lt x 128)

-- ---- places

pub octets_from_places : (o : List ℕ) → ((i : ℕ) → get_or o i 0 < 256) → IsOctets o
octets_from_places [] h = tt
octets_from_places (b ∷ bs) h = (h 0, octets_from_places bs (λ i. h (suc i)))

-- the first octet only repeats the sign of the second
abbrev pub RepeatsSign : ℕ → ℕ → Type 0
RepeatsSign b c = ((b ≡ 0) × (c < 128)) ⊎ ((b ≡ 255) × (128 ≤ c))

pub without_first : (o : List ℕ) → 2 ≤ length o → RepeatsSign (get_or o 0 0) (get_or o 1 0) → (0 < length (drop 1 o))
    × (signed (drop 1 o) ≡ signed o)
without_first [] l r = absurd (omega arith)
without_first (b ∷ []) l r = absurd (omega arith)
without_first (b ∷ c ∷ bs) l r = (
  omega arith,
  ⊎_elim (λ z. sym (signed-zero_first c bs z.1) ∙ ap (λ x. signed (x ∷ c ∷ bs)) (sym z.0))
      (λ z. sym (signed-ones_first c bs z.1) ∙ ap (λ x. signed (x ∷ c ∷ bs)) (sym z.0)) r,
)

pub nine_bits_by_places : (o : List ℕ) → 0 < length o → (2 ≤ length o → RepeatsSign (get_or o 0 0) (get_or o 1 0) → ⊥)
    → NineBitsDiffer o
nine_bits_by_places [] l r = absurd (omega arith)
nine_bits_by_places (b ∷ []) l r = tt
nine_bits_by_places (b ∷ c ∷ bs) l r = (
  λ e. ⊎_elim (λ k. absurd (r (omega arith) (inl (e, k)))) (λ k. k) (cases_lt c 128),
  λ e. ⊎_elim (λ k. k) (λ k. absurd (r (omega arith) (inr (e, k)))) (cases_lt c 128),
)

pub octets-drop : (k : ℕ) (o : List ℕ) → IsOctets o → IsOctets (drop k o)
octets-drop zero o h = h
octets-drop (suc k) [] h = h
octets-drop (suc k) (b ∷ bs) h = octets-drop k bs h.1

-- what is left of the octets is shortest, where its first octet is needed
pub end_is_shortest : (o rest : List ℕ) (k : ℕ) → ((i : ℕ) → get_or o i 0 < 256) → rest ≡ drop k o → (0 < length rest)
    × (signed rest ≡ signed o) →
    (2 ≤ length rest → RepeatsSign (get_or rest 0 0) (get_or rest 1 0) → ⊥) → IsShortest (signed o) rest
end_is_shortest o rest k h e s r =
    subst (λ z. IsShortest z rest) s.1
    (shortest_from_nine_bits rest (subst IsOctets (sym e) (octets-drop k o (octets_from_places o h)))
    (nine_bits_by_places rest s.0 r))

-- a turn that leaves out the first octet
pub next_keeps : (o rest next : List ℕ) (k : ℕ) → next ≡ drop 1 rest → rest ≡ drop k o → 2 ≤ length rest
    → RepeatsSign (get_or rest 0 0) (get_or rest 1 0) →
    (0 < length o → (0 < length rest) × (signed rest ≡ signed o)) →
    ((x : ℕ) × (x ≤ length o) × (next ≡ drop x o)) × (0 < length o → (0 < length next) × (signed next ≡ signed o))
next_keeps o rest next k n e l r s =
    let f = without_first rest l r in
    let size : length rest ≡ length o - k = ap length e ∙ length-drop k o in (
      (k + 1, omega arith, n ∙ (ap (drop 1) e ∙ drop-drop 1 k o)),
      λ some. (subst (λ z. 0 < length z) (sym n) f.0, ap signed n ∙ (f.1 ∙ (s some).1)),
    )

-- a copy of the shortest octets of a number
pub copy_is_shortest : (n : ℤ) (o copy : List ℕ) → IsShortest n o → copy ≡ o → IsShortest (signed copy) copy
copy_is_shortest n o copy s e =
    subst (λ x. IsShortest (signed x) x) (sym e) (subst (λ z. IsShortest z o) (sym s.value) s)

-- two numbers are equal exactly where their shortest octets are
pub equal_from_octets : (m n : ℤ) (a b : List ℕ) → IsShortest m a → IsShortest n b → a ≡ b → m ≡ n
equal_from_octets m n a b s t e = sym s.value ∙ (ap signed e ∙ t.value)

pub equal_octets : (m n : ℤ) (a b : List ℕ) → IsShortest m a → IsShortest n b → m ≡ n → a ≡ b
equal_octets m n a b s t e = shortest_once n a b (subst (λ z. IsShortest z a) e s) t

-- ---- unsigned

pub unsigned-zero_first : (bs : List ℕ) → unsigned (0 ∷ bs) ≡ unsigned bs
unsigned-zero_first bs = unsigned-cons 0 bs ∙ omega arith

pub shortest_unsigned_from_first : (o : List ℕ) → IsOctets o → 0 < length o → (2 ≤ length o → get_or o 0 0 ≡ 0 → ⊥)
    → IsShortestUnsigned (unsigned o) o
shortest_unsigned_from_first [] h some d = absurd (omega arith)
shortest_unsigned_from_first (b ∷ []) h some d =
    record { octets = h; some = some; value = refl; least = λ other _ some' _. omega arith }
shortest_unsigned_from_first (b ∷ c ∷ bs) h some d = record { octets = h; some = some; value = refl; least = least }
  where
    least : (other : List ℕ) → IsOctets other → 0 < length other → unsigned other ≡ unsigned (b ∷ c ∷ bs)
        → length (b ∷ c ∷ bs) ≤ length other
    least other oh some' e = ⊎_elim (λ l. absurd (clash l)) (λ l. l) (cases_lt (length other) (length (b ∷ c ∷ bs)))
      where
        clash : length other < length (b ∷ c ∷ bs) → ⊥
        clash l =
            let one : 1 ≤ b = ⊎_elim (λ z. absurd (d (omega arith) (omega arith))) (λ z. z) (cases_lt b 1) in
            let big : 1 * 256 ^ length (c ∷ bs) ≤ b * 256 ^ length (c ∷ bs) =
            mul-le-mul_right (256 ^ length (c ∷ bs)) one in
            let w = unsigned_below other oh in
            let p : 256 ^ length other ≤ 256 ^ length (c ∷ bs) =
            pow-le-pow_right (omega arith) {i = length other} {j = length (c ∷ bs)} (omega arith) in
            omega (arith, unsigned-cons b (c ∷ bs))

-- the shortest octets of a number that is not negative, without a first zero octet that is
-- before others
pub unsigned_after_zero : (n : ℕ) (o rest : List ℕ) → IsShortest (pos n) o → 2 ≤ length o → get_or o 0 0 ≡ 0
    → rest ≡ drop 1 o → IsShortestUnsigned n rest
unsigned_after_zero n [] rest s l z e = absurd (omega arith)
unsigned_after_zero n (b ∷ []) rest s l z e = absurd (omega arith)
unsigned_after_zero n (b ∷ c ∷ bs) rest s l z e =
    let first : c ≡ 0 → ⊥ = λ w. let k = (nine_bits_from_shortest (pos n) (b ∷ c ∷ bs) s).0 z in omega arith in
    let value : pos (unsigned (b ∷ c ∷ bs)) ≡ pos n = sym (signed_low b (c ∷ bs) (omega arith)) ∙ s.value in
    let number : unsigned (b ∷ c ∷ bs) ≡ n = ap up value in
    let same : unsigned (c ∷ bs) ≡ n = sym (unsigned-zero_first (c ∷ bs))
    ∙ (ap (λ x. unsigned (x ∷ c ∷ bs)) (sym z) ∙ number) in
    subst (λ t. IsShortestUnsigned n t) (sym e)
    (subst (λ m. IsShortestUnsigned m (c ∷ bs)) same
    (shortest_unsigned_from_first (c ∷ bs) s.octets.1 (omega arith) (λ _ w. first w)))

-- with no such octet they are the shortest unsigned octets too
pub unsigned_as_it_is : (n : ℕ) (o : List ℕ) → IsShortest (pos n) o → (2 ≤ length o → get_or o 0 0 ≡ 0 → ⊥)
    → IsShortestUnsigned n o
unsigned_as_it_is n [] s d = let some = s.some in absurd (omega arith)
unsigned_as_it_is n (b ∷ bs) s d = ⊎_elim low high (cases_lt b 128)
  where
    low : b < 128 → IsShortestUnsigned n (b ∷ bs)
    low i =
        let value : pos (unsigned (b ∷ bs)) ≡ pos n = sym (signed_low b bs i) ∙ s.value in
        let number : unsigned (b ∷ bs) ≡ n = ap up value in
        subst (λ m. IsShortestUnsigned m (b ∷ bs)) number (shortest_unsigned_from_first (b ∷ bs) s.octets s.some d)

    high : 128 ≤ b → IsShortestUnsigned n (b ∷ bs)
    high i =
        let e = high_parts b bs s.octets i in
        let w = unsigned_below (b ∷ bs) s.octets in
        let u : up (signed (b ∷ bs)) ≡ n = ap up s.value in
        let v : down (signed (b ∷ bs)) ≡ 0 = ap down s.value in
        absurd (omega arith)

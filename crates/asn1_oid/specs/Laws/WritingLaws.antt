-- The octets that are computed are the contents, and the only ones.
use Rattle.std.proofs.Common.{◌≡◌, ◌≢◌, ℕ, zero, suc, ◌+◌, ◌-◌, ◌*◌, ◌/◌, ◌%◌, ◌^◌, ◌<◌, ◌≤◌, Bool, true, false, cond, eqb, ltb, List, [], ◌∷◌, ◌++◌, length, refl, sym, ap, subst, ◌∙◌, arith, inl, inr}
use Rattle.std.specs.Prelude.{All, slice_index}
use Rattle.std.proofs.lemmas.List.Elements.{All-nil, All-cons, All-append}
use Rattle.std.specs.List.{flat_map}
use Rattle.std.proofs.Math.Nat.{pow-succ', one-le-pow, pow-le-pow_right, mod-eq_of_lt, mod-lt, mul_assoc, add-mul, mul-le-mul_right}
use Rattle.std.proofs.lemmas.Nat.{div-add-mod', div_below, le-div, mod-mul-add, div-mul-add, mul-add-lt, pow-add}
use Rattle.std.proofs.lemmas.Bool.{ltb-true, ltb-false, ne_eqb, cases_lt}
use Rattle.std.proofs.lemmas.List.{length-append}
use Rattle.asn1_oid.specs.Contents.{IsSeries, base_128, IsSubidentifier, AreSubidentifiers, subidentifiers, IsContents, EachHasOneContents}
use Rattle.asn1_oid.specs.Writing.{last_octets, HasDigits, digits_within, digit_count, subidentifier_octets, octets_left}

some_power : (k : ℕ) → 1 ≤ 128 ^ k
some_power k = one-le-pow k 128 (omega arith)

pub next_power : (k : ℕ) → 128 ^ suc k ≡ 128 * 128 ^ k
next_power k = pow-succ' 128 k

one_less : (k m : ℕ) → 128 ^ (suc k - 1) ≤ m → 128 ^ k ≤ m
one_less k m le = let e : suc k - 1 ≡ k = omega arith in subst (λ (j : ℕ). 128 ^ j ≤ m) e le

one_more : (k m : ℕ) → 128 ^ k ≤ m → 128 ^ (suc k - 1) ≤ m
one_more k m le = let e : k ≡ suc k - 1 = omega arith in subst (λ (j : ℕ). 128 ^ j ≤ m) e le

-- ---- how many digits

-- one more digit
more_digits : (n k : ℕ) → 128 ≤ n → HasDigits (n / 128) k → HasDigits n (suc k)
more_digits n zero ge h = absurd (let some = h.some in omega arith)
more_digits n (suc k) ge h = record {
  some = omega arith;
  enough = let e = h.enough in let p = next_power (suc k) in omega arith;
  fewest = λ lt.
      let low : 128 ^ k ≤ n / 128 = below k h in
      let p = next_power k in
      one_more (suc k) n (omega arith);
}
  where
    below : (k : ℕ) → HasDigits (n / 128) (suc k) → 128 ^ k ≤ n / 128
    below zero h = omega arith
    below (suc k) h = one_less (suc k) (n / 128) (h.fewest (omega arith))

digits_facts : (most n : ℕ) → n ≤ most → HasDigits n (digits_within most n)
digits_facts zero n le = record { some = omega arith; enough = omega arith; fewest = λ lt. absurd (omega arith) }
digits_facts (suc most) n le = by_test (ltb n 128) refl (λ ge. digits_facts most (n / 128) (omega arith))
  where
    by_test : (b : Bool) → ltb n 128 ≡ b → (128 ≤ n → HasDigits (n / 128) (digits_within most (n / 128)))
        → HasDigits n (cond b 1 (suc (digits_within most (n / 128))))
    by_test true e others = let lt =
        ltb-true n 128 e in record { some = omega arith; enough = omega arith; fewest = λ more. absurd (omega arith) }
    by_test false e others = let ge = ltb-false n 128 e in more_digits n (digits_within most (n / 128)) ge (others ge)

pub digits_of : (n : ℕ) → HasDigits n (digit_count n)
unfolding digit_count
digits_of n = digits_facts n n (omega arith)

no_less : (n i j : ℕ) → HasDigits n i → HasDigits n j → i < j → ⊥
no_less n i j h g lt =
    let some = h.some in
    let low = g.fewest (omega arith) in
    let high = h.enough in
    let le : i ≤ j - 1 = omega arith in
    let up : 128 ^ i ≤ 128 ^ (j - 1) = pow-le-pow_right {n = 128} (omega arith) {i = i} {j = j - 1} le in
    omega arith

pub same_digits : (n i j : ℕ) → HasDigits n i → HasDigits n j → i ≡ j
same_digits n i j h g = elim (cases_lt i j) [
  | inl lt ↦ absurd (no_less n i j h g lt)
  | inr le ↦ elim (cases_lt j i) [ inl lt ↦ absurd (no_less n j i g h lt) | inr ge ↦ omega arith ]
]

-- ---- the last octets of a subidentifier

pub length-last_octets : (n k : ℕ) → length (last_octets n k) ≡ k
unfolding last_octets
length-last_octets n zero = refl
length-last_octets n (suc k) = ap suc (length-last_octets n k)

pub last_octet : (n : ℕ) → last_octets n 1 ≡ (n % 128) ∷ []
unfolding last_octets
last_octet n = ap (λ (d : ℕ). d ∷ []) (let e : 0 + n / 1 % 128 ≡ n % 128 = omega arith in e)

pub octet_before : (n k : ℕ) → last_octets n (suc (suc k)) ≡ (128 + n / 128 ^ suc k % 128) ∷ last_octets n (suc k)
unfolding last_octets
octet_before n k = rw (ne_eqb (suc k) 0 (λ e. omega arith)) refl

series_of_last : (n k : ℕ) → IsSeries (last_octets n (suc k))
series_of_last n zero = subst IsSeries (sym (last_octet n)) (inl (omega arith, refl))
series_of_last n (suc k) = subst IsSeries (sym (octet_before n k)) (inr (omega arith, omega arith, series_of_last n k))

-- a digit before, and the digits after it
split_digits : (n p : ℕ) → 1 ≤ p → n % (128 * p) ≡ n / p % 128 * p + n % p
split_digits n p some =
    let q : ℕ = n / p in
    let low : n % p < p = mod-lt n {m = p} some in
    let here : q * p + n % p ≡ n = div-add-mod' n p in
    let high : q / 128 * 128 + q % 128 ≡ q = div-add-mod' q 128 in
    let cut : q * p ≡ q / 128 * (128 * p) + q % 128 * p =
    ap (λ (k : ℕ). k * p) (sym high) ∙ add-mul (q / 128 * 128) (q % 128) p
    ∙ ap (λ (k : ℕ). k + q % 128 * p) (mul_assoc (q / 128) 128 p) in
    let whole : n ≡ q / 128 * (128 * p) + (q % 128 * p + n % p) = omega arith in
    let below : q % 128 * p + n % p < p * 128 = mul-add-lt (q % 128) p (n % p) 128 (omega arith) low in
    let fits : q % 128 * p + n % p < 128 * p = omega arith in
    ap (λ (k : ℕ). k % (128 * p)) whole ∙ mod-mul-add (q / 128) (128 * p) (q % 128 * p + n % p) fits

value_of_last : (n k : ℕ) → base_128 (last_octets n k) ≡ n % 128 ^ k
unfolding last_octets base_128
value_of_last n zero = omega arith
value_of_last n (suc k) =
    let p : ℕ = 128 ^ k in
    let d : ℕ = n / 128 ^ k % 128 in
    let small : d < 128 = omega arith in
    let digit : (cond (eqb k 0) 0 128 + d) % 128 ≡ d = by_top (eqb k 0) d small in
    ap (λ (x : ℕ). x * 128 ^ length (last_octets n k) + base_128 (last_octets n k)) digit
    ∙ ap (λ (j : ℕ). d * 128 ^ j + base_128 (last_octets n k)) (length-last_octets n k)
    ∙ ap (λ (x : ℕ). d * 128 ^ k + x) (value_of_last n k)
    ∙ sym (split_digits n (128 ^ k) (some_power k))
    ∙ ap (λ (m : ℕ). n % m) (sym (next_power k))
  where
    by_top : (b : Bool) (d : ℕ) → d < 128 → (cond b 0 128 + d) % 128 ≡ d
    by_top true d lt = omega arith
    by_top false d lt = omega arith

no_leading_80 : (n k : ℕ) → HasDigits n k → slice_index (last_octets n k) 0 ≢ 128
no_leading_80 n zero h = absurd (let some = h.some in omega arith)
no_leading_80 n (suc zero) h =
    λ e. (let e2 : n % 128 ≡ 128 = sym (ap (λ (l : List ℕ). slice_index l 0) (last_octet n)) ∙ e in omega arith)
no_leading_80 n (suc (suc k)) h = λ e.
    let low : 128 ^ suc k ≤ n = one_less (suc k) n (h.fewest (omega arith)) in
    let p = next_power (suc k) in
    let high : n < 128 * 128 ^ suc k = let en = h.enough in omega arith in
    let one : 1 ≤ n / 128 ^ suc k = le-div 1 n (128 ^ suc k) (some_power (suc k)) (omega arith) in
    let few : n / 128 ^ suc k < 128 = div_below n (128 ^ suc k) 128 (some_power (suc k)) high in
    let e2 : 128 + n / 128 ^ suc k % 128 ≡ 128 = sym (ap (λ (l : List ℕ). slice_index l 0) (octet_before n k)) ∙ e in
    omega arith

pub last_octets_are : (n k : ℕ) → HasDigits n k → IsSubidentifier n (last_octets n k)
last_octets_are n zero h = absurd (let some = h.some in omega arith)
last_octets_are n (suc k) h = record {
  series = series_of_last n k;
  value = value_of_last n (suc k) ∙ mod-eq_of_lt h.enough;
  fewest = no_leading_80 n (suc k) h;
}

subidentifiers_of : (ns : List ℕ) → AreSubidentifiers ns (flat_map subidentifier_octets ns)
unfolding subidentifier_octets
subidentifiers_of [] = refl
subidentifiers_of (n ∷ ns) = (
  last_octets n (digit_count n),
  flat_map subidentifier_octets ns,
  last_octets_are n (digit_count n) (digits_of n),
  subidentifiers_of ns,
  refl,
)

pub left_are : (n k : ℕ) (arcs : List ℕ) → HasDigits n k → AreSubidentifiers (n ∷ arcs) (octets_left n k arcs)
unfolding octets_left
left_are n k arcs h =
    (last_octets n k, flat_map subidentifier_octets arcs, last_octets_are n k h, subidentifiers_of arcs, refl)

-- ---- and no others

-- the digits below do not see those above
lower_digits : (m n k j : ℕ) → k ≤ j → last_octets (m * 128 ^ j + n) k ≡ last_octets n k
unfolding last_octets
lower_digits m n zero j le = refl
lower_digits m n (suc k) j le =
    let d : (m * 128 ^ j + n) / 128 ^ k % 128 ≡ n / 128 ^ k % 128 = same_digit (j - suc k) (omega arith) in
    ap (λ (x : ℕ). (cond (eqb k 0) 0 128 + x) ∷ last_octets (m * 128 ^ j + n) k) d
    ∙ ap (λ (l : List ℕ). (cond (eqb k 0) 0 128 + n / 128 ^ k % 128) ∷ l) (lower_digits m n k j (omega arith))
  where
    same_digit : (i : ℕ) → j ≡ i + suc k → (m * 128 ^ j + n) / 128 ^ k % 128 ≡ n / 128 ^ k % 128
    same_digit i e =
        let p : ℕ = 128 ^ k in
        let power : 128 ^ j ≡ 128 ^ i * (128 * p) = ap (λ (x : ℕ). 128 ^ x) e ∙ pow-add 128 i (suc k)
        ∙ ap (λ (x : ℕ). 128 ^ i * x) (next_power k) in
        let c : ℕ = m * 128 ^ i * 128 in
        let parts : m * 128 ^ j ≡ c * p =
        ap (λ (x : ℕ). m * x) power ∙ sym (mul_assoc m (128 ^ i) (128 * p)) ∙ sym (mul_assoc (m * 128 ^ i) 128 p) in
        let low : n % p < p = mod-lt n {m = p} (some_power k) in
        let here : n / p * p + n % p ≡ n = div-add-mod' n p in
        let sum : c * p + n ≡ (c + n / p) * p + n % p = let a = add-mul c (n / p) p in omega arith in
        let cut : (m * 128 ^ j + n) / p ≡ c + n / p = ap (λ (x : ℕ). (x + n) / p) parts ∙ ap (λ (x : ℕ). x / p) sum
        ∙ div-mul-add (c + n / p) p (n % p) low in
        ap (λ (x : ℕ). x % 128) cut ∙ omega arith

below_power : (octets : List ℕ) → base_128 octets < 128 ^ length octets
unfolding base_128
below_power [] = omega arith
below_power (octet ∷ octets) =
    let b = below_power octets in
    let p = next_power (length octets) in
    let d : octet % 128 < 128 = omega arith in
    let lt = mul-add-lt (octet % 128) (128 ^ length octets) (base_128 octets) 128 d b in
    omega arith

-- a series is the last octets of its number
series_is : (octets : List ℕ) → IsSeries octets → octets ≡ last_octets (base_128 octets) (length octets)
unfolding base_128
series_is [] series = absurd series
series_is (octet ∷ []) (inl p) =
    let lt = p.0 in
    let e : (octet % 128 * 128 ^ 0 + 0) % 128 ≡ octet = omega arith in
    ap (λ (o : ℕ). o ∷ []) (sym e) ∙ sym (last_octet (octet % 128 * 128 ^ 0 + 0))
series_is (octet ∷ next ∷ octets) (inl p) = absurd cc
series_is (octet ∷ []) (inr p) = absurd p.2
series_is (octet ∷ next ∷ octets) (inr p) =
    let tail : List ℕ = next ∷ octets in
    let n : ℕ = base_128 tail in
    let q : ℕ = 128 ^ length tail in
    let d : ℕ = octet % 128 in
    let low : n < q = below_power tail in
    let ge = p.0 in
    let lt = p.1 in
    let digit : (d * q + n) / q ≡ d = div-mul-add d q n low in
    let head : 128 + (d * q + n) / q % 128 ≡ octet = ap (λ (x : ℕ). 128 + x % 128) digit ∙ omega arith in
    let behind : last_octets (d * q + n) (length tail) ≡ tail =
    lower_digits d n (length tail) (length tail) (omega arith) ∙ sym (series_is (next ∷ octets) p.2) in
    sym (octet_before (d * q + n) (length octets) ∙ ap (λ (x : ℕ). x ∷ last_octets (d * q + n) (length tail)) head
    ∙ ap (λ (l : List ℕ). octet ∷ l) behind)

-- and as many as the number has digits
series_digits : (octets : List ℕ) → IsSeries octets → slice_index octets 0 ≢ 128
    → HasDigits (base_128 octets) (length octets)
unfolding base_128
series_digits [] series first = absurd series
series_digits (octet ∷ octets) series first = record {
  some = omega arith;
  enough = below_power (octet ∷ octets);
  fewest =
      λ more. one_more (length octets) (octet % 128 * 128 ^ length octets + base_128 octets) (high octets series more);
}
  where
    high : (octets : List ℕ) → IsSeries (octet ∷ octets) → 1 < suc (length octets)
        → 128 ^ length octets ≤ octet % 128 * 128 ^ length octets + base_128 octets
    high [] s more = absurd (omega arith)
    high (next ∷ octets) (inl p) more = absurd cc
    high (next ∷ octets) (inr p) more =
        let ge = p.0 in
        let lt = p.1 in
        let ne : octet ≢ 128 = first in
        let d : 1 ≤ octet % 128 = omega arith in
        let m = mul-le-mul_right {m = 1} {n = octet % 128} (128 ^ suc (length octets)) d in
        omega arith

pub only_octets : (n : ℕ) (octets : List ℕ) → IsSubidentifier n octets → octets ≡ subidentifier_octets n
unfolding subidentifier_octets
only_octets n octets s =
    let digits : HasDigits n (length octets) =
    subst (λ (m : ℕ). HasDigits m (length octets)) s.value (series_digits octets s.series s.fewest) in
    series_is octets s.series ∙ ap (λ (m : ℕ). last_octets m (length octets)) s.value
    ∙ ap (last_octets n) (same_digits n (length octets) (digit_count n) digits (digits_of n))

only_subidentifiers : (ns octets : List ℕ) → AreSubidentifiers ns octets → octets ≡ flat_map subidentifier_octets ns
only_subidentifiers [] octets e = e
only_subidentifiers (n ∷ ns) octets s =
    s.4 ∙ ap (λ (l : List ℕ). l ++ s.1) (only_octets n s.0 s.2)
    ∙ ap (λ (l : List ℕ). subidentifier_octets n ++ l) (only_subidentifiers ns s.1 s.3)

-- arcs have one contents
pub contents_only : (arcs a b : List ℕ) → IsContents arcs a → IsContents arcs b → a ≡ b
contents_only arcs a b x y = only_subidentifiers (subidentifiers arcs) a x.spelled
    ∙ sym (only_subidentifiers (subidentifiers arcs) b y.spelled)

pub one_contents : EachHasOneContents
one_contents arcs valid two =
    let octets : List ℕ = flat_map subidentifier_octets (subidentifiers arcs) in
    let are : IsContents arcs octets =
    record { valid = valid; two = two; spelled = subidentifiers_of (subidentifiers arcs) } in
    (octets, are, λ other c. contents_only arcs other octets c are)

-- ---- contents are octets

series_octets : (octets : List ℕ) → IsSeries octets → All (λ octet. octet < 256) octets
series_octets [] series = absurd series
series_octets (octet ∷ octets) (inl p) =
    let lt = p.0 in
    subst (λ (l : List ℕ). All (λ octet. octet < 256) (octet ∷ l)) (sym p.1)
    (All-cons (λ octet. octet < 256) octet [] (omega arith) (All-nil (λ octet. octet < 256)))
series_octets (octet ∷ octets) (inr p) = All-cons (λ octet. octet < 256) octet octets p.1 (series_octets octets p.2)

subidentifiers_octets : (ns octets : List ℕ) → AreSubidentifiers ns octets → All (λ octet. octet < 256) octets
subidentifiers_octets [] octets e = subst (All (λ octet. octet < 256)) (sym e) (All-nil (λ octet. octet < 256))
subidentifiers_octets (n ∷ ns) octets s =
    subst (All (λ octet. octet < 256)) (sym s.4)
    (All-append (λ octet. octet < 256) s.0 s.1 (series_octets s.0 s.2.series) (subidentifiers_octets ns s.1 s.3))

pub contents_octets : (arcs octets : List ℕ) → IsContents arcs octets → All (λ octet. octet < 256) octets
contents_octets arcs octets c = subidentifiers_octets (subidentifiers arcs) octets c.spelled

-- there is at least one octet
pub some_contents : (arcs octets : List ℕ) → IsContents arcs octets → length octets ≡ 0 → ⊥
some_contents [] octets c e = let two = c.two in omega arith
some_contents (x ∷ []) octets c e = let two = c.two in omega arith
some_contents (x ∷ y ∷ arcs) octets c e =
    let s = c.spelled in
    let some = some_octets s.0 s.2.series in
    let sum = length-append s.0 s.1 in
    omega (arith, ap length s.4)
  where
    some_octets : (octets : List ℕ) → IsSeries octets → 0 < length octets
    some_octets [] series = absurd series
    some_octets (octet ∷ octets) series = omega arith

-- The order of the shortest octets of numbers is that of the numbers.
use Rattle.std.proofs.Common.{◌≡◌, ℕ, suc, ◌+◌, ◌*◌, ◌^◌, ◌<◌, ◌≤◌, ◌<ℤ◌, ℤ, List, [], ◌∷◌, length, refl, sym, ap, ◌∙◌, ◌⊎◌, inl, inr, arith, ⊎_elim}
use Rattle.std.proofs.Math.Nat.{suc-mul, mul-le-mul_right, pow-le-pow_right}
use Rattle.std.proofs.lemmas.Bool.{cases_lt, le-leb, lt-leb}
use Rattle.std.proofs.lemmas.Cmp.{ranked}
use Rattle.std.specs.Cmp.{int_cmp_is}
use Rattle.std.specs.Cmp.Lexicographic.{slice_cmp}
use Rattle.std.specs.declared.cmp.Ordering.{Ordering}
use Rattle.std.specs.declared.cmp.Ordering.TheVariants.{Less, Equal, Greater}
use Rattle.std.specs.Ordering.{MatchOrdering, nat_cmp, int_cmp, ordering_then}
use borrow.Author.Differences.{up, down, same_in, below_in}
use Rattle.asn1_number.specs.Octets.{IsOctets, unsigned, signed, IsShortest}
use Rattle.asn1_number.specs.Order.{NineBitsDiffer, octets_cmp}
use Rattle.asn1_number.specs.Laws.OctetLaws.{unsigned-cons, unsigned_below, low_parts, high_parts, signed_range, signed_outside, nine_bits_from_shortest}

map_match : (P Q R P' Q' R' : Type 0) (o : Ordering) → (P → P') → (Q → Q') → (R → R') → MatchOrdering o P Q R
    → MatchOrdering o P' Q' R'
map_match P Q R P' Q' R' Less f g h m = f m
map_match P Q R P' Q' R' Equal f g h m = g m
map_match P Q R P' Q' R' Greater f g h m = h m

place_below : (x y u v w : ℕ) → x < y → u < w → x * w + u < y * w + v
place_below x y u v w l s =
    let k : suc x * w ≤ y * w = mul-le-mul_right w l in
    omega (arith, suc-mul x w)

first_then : (x y u v w : ℕ) (o p : Ordering) → u < w → v < w →
    MatchOrdering o (x < y) (x ≡ y) (y < x) → MatchOrdering p (u < v) (u ≡ v) (v < u) →
    MatchOrdering (ordering_then o p) (x * w + u < y * w + v) (x * w + u ≡ y * w + v) (y * w + v < x * w + u)
first_then x y u v w Less p hu hv m k = place_below x y u v w m hu
first_then x y u v w Greater p hu hv m k = place_below y x v u w m hv
first_then x y u v w Equal p hu hv m k =
    let e : x * w ≡ y * w = ap (λ a. a * w) m in
    map_match _ _ _ _ _ _ p (λ (l : u < v). omega arith) (λ (l : u ≡ v). omega arith) (λ (l : v < u). omega arith) k

-- octets as texts, where there are as many of them
pub texts_ranked : (a b : List ℕ) → IsOctets a → IsOctets b → length a ≡ length b →
    MatchOrdering (slice_cmp nat_cmp a b) (unsigned a < unsigned b) (unsigned a ≡ unsigned b) (unsigned b < unsigned a)
texts_ranked [] [] h k l = refl
texts_ranked [] (y ∷ ys) h k l = absurd (omega arith)
texts_ranked (x ∷ xs) [] h k l = absurd (omega arith)
texts_ranked (x ∷ xs) (y ∷ ys) h k l =
    let same : length xs ≡ length ys = omega arith in
    let p : 256 ^ length ys ≡ 256 ^ length xs = ap (λ (n : ℕ). 256 ^ n) (sym same) in
    let small : unsigned ys < 256 ^ length xs = omega (arith, unsigned_below ys k.1, p) in
    let ex : unsigned (x ∷ xs) ≡ x * 256 ^ length xs + unsigned xs = unsigned-cons x xs in
    let ey : unsigned (y ∷ ys) ≡ y * 256 ^ length xs + unsigned ys = unsigned-cons y ys
    ∙ ap (λ w. y * w + unsigned ys) p in
    map_match _ _ _ _ _ _ (slice_cmp nat_cmp (x ∷ xs) (y ∷ ys))
    (λ (r : x * 256 ^ length xs + unsigned xs < y * 256 ^ length xs + unsigned ys). omega arith)
    (λ (r : x * 256 ^ length xs + unsigned xs ≡ y * 256 ^ length xs + unsigned ys). omega arith)
    (λ (r : y * 256 ^ length xs + unsigned ys < x * 256 ^ length xs + unsigned xs). omega arith)
    (first_then x y (unsigned xs) (unsigned ys) (256 ^ length xs) (nat_cmp x y) (slice_cmp nat_cmp xs ys)
    (unsigned_below xs h.1) small
    (ranked x y (nat_cmp x y) refl) (texts_ranked xs ys h.1 k.1 same))

-- more octets, a greater distance from 0
pub farther : (x : ℕ) (xs : List ℕ) (y : ℕ) (ys : List ℕ) → IsOctets (x ∷ xs) → IsOctets (y ∷ ys)
    → NineBitsDiffer (y ∷ ys) → length xs < length ys →
    (up (signed (x ∷ xs)) < up (signed (y ∷ ys))) ⊎ (down (signed (x ∷ xs)) < down (signed (y ∷ ys)))
farther x xs y [] h k d l = absurd (omega arith)
farther x xs y (c ∷ cs) h k d l =
    let r = signed_range x xs h in
    let p : 256 ^ length xs ≤ 256 ^ length cs = pow-le-pow_right (omega arith) (omega arith) in
    ⊎_elim (λ big. inl (omega arith)) (λ big. inr (omega arith)) (signed_outside y c cs k d)

then_match : (m n : ℕ) (A B C : Type 0) (o p : Ordering) → MatchOrdering o (m < n) (m ≡ n) (n < m) →
    (m < n → A) → (m ≡ n → MatchOrdering p A B C) → (n < m → C) → MatchOrdering (ordering_then o p) A B C
then_match m n A B C Less p h f g k = f h
then_match m n A B C Equal p h f g k = g h
then_match m n A B C Greater p h f g k = k h

abbrev Ranked : List ℕ → List ℕ → Ordering → Type 0
Ranked a b o = MatchOrdering o (signed a <ℤ signed b) (signed a ≡ signed b) (signed b <ℤ signed a)

-- to compare by sign, then by length, then octet by octet is the order of whole numbers
pub octets_ranked : (a b : List ℕ) → IsOctets a → IsOctets b → NineBitsDiffer a → NineBitsDiffer b →
    Ranked a b (octets_cmp a b)
octets_ranked [] b h k d e = absurd d
octets_ranked (x ∷ xs) [] h k d e = absurd e
octets_ranked (x ∷ xs) (y ∷ ys) h k d e =
    ⊎_elim (λ i. ⊎_elim (low_low i) (low_high i) (cases_lt y 128))
    (λ i. ⊎_elim (high_low i) (high_high i) (cases_lt y 128)) (cases_lt x 128)
  where
    low_high : x < 128 → 128 ≤ y → Ranked (x ∷ xs) (y ∷ ys) (octets_cmp (x ∷ xs) (y ∷ ys))
    low_high i j =
        let p = low_parts x xs i in
        let q = high_parts y ys k j in
        let s = unsigned_below (y ∷ ys) k in
        rw (lt-leb 128 x i, le-leb 128 y j) (below_in _ _ (omega arith))

    high_low : 128 ≤ x → y < 128 → Ranked (x ∷ xs) (y ∷ ys) (octets_cmp (x ∷ xs) (y ∷ ys))
    high_low i j =
        let p = high_parts x xs h i in
        let q = low_parts y ys j in
        let s = unsigned_below (x ∷ xs) h in
        rw (le-leb 128 x i, lt-leb 128 y j) (below_in _ _ (omega arith))

    low_low : x < 128 → y < 128 → Ranked (x ∷ xs) (y ∷ ys) (octets_cmp (x ∷ xs) (y ∷ ys))
    low_low i j =
        rw (lt-leb 128 x i, lt-leb 128 y j)
        (then_match (length (x ∷ xs)) (length (y ∷ ys)) (signed (x ∷ xs) <ℤ signed (y ∷ ys))
        (signed (x ∷ xs) ≡ signed (y ∷ ys)) (signed (y ∷ ys) <ℤ signed (x ∷ xs))
        (nat_cmp (length (x ∷ xs)) (length (y ∷ ys))) (slice_cmp nat_cmp (x ∷ xs) (y ∷ ys))
        (ranked (length (x ∷ xs)) (length (y ∷ ys)) (nat_cmp (length (x ∷ xs)) (length (y ∷ ys))) refl) less same more)
      where
        p : (up (signed (x ∷ xs)) ≡ unsigned (x ∷ xs)) × (down (signed (x ∷ xs)) ≡ 0)
        p = low_parts x xs i

        q : (up (signed (y ∷ ys)) ≡ unsigned (y ∷ ys)) × (down (signed (y ∷ ys)) ≡ 0)
        q = low_parts y ys j

        less : length (x ∷ xs) < length (y ∷ ys) → signed (x ∷ xs) <ℤ signed (y ∷ ys)
        less l =
            ⊎_elim (λ f. below_in _ _ (omega (arith, p, q))) (λ f. absurd (omega (arith, p, q)))
            (farther x xs y ys h k e (omega arith))

        more : length (y ∷ ys) < length (x ∷ xs) → signed (y ∷ ys) <ℤ signed (x ∷ xs)
        more l =
            ⊎_elim (λ f. below_in _ _ (omega (arith, p, q))) (λ f. absurd (omega (arith, p, q)))
            (farther y ys x xs k h d (omega arith))

        same : length (x ∷ xs) ≡ length (y ∷ ys) → Ranked (x ∷ xs) (y ∷ ys) (slice_cmp nat_cmp (x ∷ xs) (y ∷ ys))
        same l = map_match _ _ _ _ _ _ (slice_cmp nat_cmp (x ∷ xs) (y ∷ ys))
            (λ (r : unsigned (x ∷ xs) < unsigned (y ∷ ys)). below_in _ _ (omega (arith, p, q)))
            (λ (r : unsigned (x ∷ xs) ≡ unsigned (y ∷ ys)). same_in _ _ (omega (arith, p, q)))
            (λ (r : unsigned (y ∷ ys) < unsigned (x ∷ xs)). below_in _ _ (omega (arith, p, q)))
            (texts_ranked (x ∷ xs) (y ∷ ys) h k l)

    high_high : 128 ≤ x → 128 ≤ y → Ranked (x ∷ xs) (y ∷ ys) (octets_cmp (x ∷ xs) (y ∷ ys))
    high_high i j =
        rw (le-leb 128 x i, le-leb 128 y j)
        (then_match (length (y ∷ ys)) (length (x ∷ xs)) (signed (x ∷ xs) <ℤ signed (y ∷ ys))
        (signed (x ∷ xs) ≡ signed (y ∷ ys)) (signed (y ∷ ys) <ℤ signed (x ∷ xs))
        (nat_cmp (length (y ∷ ys)) (length (x ∷ xs))) (slice_cmp nat_cmp (x ∷ xs) (y ∷ ys))
        (ranked (length (y ∷ ys)) (length (x ∷ xs)) (nat_cmp (length (y ∷ ys)) (length (x ∷ xs))) refl) less same more)
      where
        p : (up (signed (x ∷ xs)) ≡ 0) × (down (signed (x ∷ xs)) + unsigned (x ∷ xs) ≡ 256 ^ length (x ∷ xs))
        p = high_parts x xs h i

        q : (up (signed (y ∷ ys)) ≡ 0) × (down (signed (y ∷ ys)) + unsigned (y ∷ ys) ≡ 256 ^ length (y ∷ ys))
        q = high_parts y ys k j

        less : length (y ∷ ys) < length (x ∷ xs) → signed (x ∷ xs) <ℤ signed (y ∷ ys)
        less l =
            ⊎_elim (λ f. absurd (omega (arith, p, q))) (λ f. below_in _ _ (omega (arith, p, q)))
            (farther y ys x xs k h d (omega arith))

        more : length (x ∷ xs) < length (y ∷ ys) → signed (y ∷ ys) <ℤ signed (x ∷ xs)
        more l =
            ⊎_elim (λ f. absurd (omega (arith, p, q))) (λ f. below_in _ _ (omega (arith, p, q)))
            (farther x xs y ys h k e (omega arith))

        same : length (y ∷ ys) ≡ length (x ∷ xs) → Ranked (x ∷ xs) (y ∷ ys) (slice_cmp nat_cmp (x ∷ xs) (y ∷ ys))
        same l =
            let w : 256 ^ length (y ∷ ys) ≡ 256 ^ length (x ∷ xs) = ap (λ (n : ℕ). 256 ^ n) l in
            map_match _ _ _ _ _ _ (slice_cmp nat_cmp (x ∷ xs) (y ∷ ys))
            (λ (r : unsigned (x ∷ xs) < unsigned (y ∷ ys)). below_in _ _ (omega (arith, p, q, w)))
            (λ (r : unsigned (x ∷ xs) ≡ unsigned (y ∷ ys)). same_in _ _ (omega (arith, p, q, w)))
            (λ (r : unsigned (y ∷ ys) < unsigned (x ∷ xs)). below_in _ _ (omega (arith, p, q, w)))
            (texts_ranked (x ∷ xs) (y ∷ ys) h k (sym l))

pub octets_order : (a b : List ℕ) → IsOctets a → IsOctets b → NineBitsDiffer a → NineBitsDiffer b
    → octets_cmp a b ≡ int_cmp (signed a) (signed b)
octets_order a b h k d e = int_cmp_is (signed a) (signed b) (octets_cmp a b) (octets_ranked a b h k d e)

-- an order and an equality of numbers by their shortest octets
pub shortest_order : (m n : ℤ) (a b : List ℕ) → IsShortest m a → IsShortest n b → octets_cmp a b ≡ int_cmp m n
shortest_order m n a b s t =
    octets_order a b s.octets t.octets (nine_bits_from_shortest m a s) (nine_bits_from_shortest n b t)
    ∙ (ap (λ x. int_cmp x (signed b)) s.value ∙ ap (int_cmp m) t.value)

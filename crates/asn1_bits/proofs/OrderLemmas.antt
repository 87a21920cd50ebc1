-- Lists of bits are ordered as the numbers of their words, and then by their lengths.
use Rattle.std.proofs.Common.{◌≡◌, ◌≢◌, ℕ, ◌+◌, ◌<◌, ◌≤◌, min, Bool, List, [], ◌∷◌, ◌++◌, length, take, drop, refl, sym, ap, ◌∙◌, arith, Ordering}
use Rattle.std.specs.declared.cmp.Ordering.TheVariants.{Less, Equal, Greater}
use Rattle.std.specs.Prelude.{◌==◌}
use Rattle.std.specs.Ordering.{MatchOrdering, bool_cmp, nat_cmp, ordering_then, ordering_index, is_eq}
use Rattle.std.specs.Cmp.{ranks}
use Rattle.std.specs.Cmp.Lexicographic.{slice_cmp}
use Rattle.std.proofs.lemmas.List.{length-drop, length-take-le, take-append-drop}
use Rattle.std.proofs.lemmas.Bool.{le-ltb, lt-ltb, eq-eqb, ne_eqb}
use Rattle.asn1_bits.specs.Bits.{number}
use Rattle.asn1_bits.specs.Laws.OrderLaws.{by_number, by_fronts, same_front}

-- what is after fronts that are the same decides
behind : (xs ys : List Bool) (n : ℕ) → take n xs ≡ take n ys
    → slice_cmp bool_cmp (drop n xs) (drop n ys) ≡ slice_cmp bool_cmp xs ys
behind xs ys n e =
    sym (ap (λ (l : List Bool). slice_cmp bool_cmp l ys) (sym (take-append-drop n xs))
    ∙ ap (λ (l : List Bool). slice_cmp bool_cmp (take n xs ++ drop n xs) l) (sym (take-append-drop n ys))
    ∙ ap (λ (l : List Bool). slice_cmp bool_cmp (take n xs ++ drop n xs) (l ++ drop n ys)) (sym e)
    ∙ same_front (take n xs) (drop n xs) (drop n ys))

-- so do the first n bits of two lists
pub by-first : (xs ys : List Bool) (n : ℕ) → n ≤ length xs → n ≤ length ys
    → slice_cmp bool_cmp xs ys ≡ ordering_then (nat_cmp (number (take n xs)) (number (take n ys)))
    (slice_cmp bool_cmp (drop n xs) (drop n ys))
by-first xs ys n h k =
    let a : length (take n xs) ≡ n = length-take-le n xs h in
    let b : length (take n ys) ≡ n = length-take-le n ys k in
    ap (λ (l : List Bool). slice_cmp bool_cmp l ys) (sym (take-append-drop n xs))
    ∙ ap (λ (l : List Bool). slice_cmp bool_cmp (take n xs ++ drop n xs) l) (sym (take-append-drop n ys))
    ∙ by_fronts (take n xs) (take n ys) (drop n xs) (drop n ys) (a ∙ sym b)
    ∙ ap (λ (o : Ordering). ordering_then o (slice_cmp bool_cmp (drop n xs) (drop n ys)))
    (by_number (take n xs) (take n ys) (a ∙ sym b))

-- two numbers that differ decide
decides : (m n : ℕ) (o p : Ordering) → m ≢ n → MatchOrdering o (m < n) (m ≡ n) (n < m) → ordering_then o p ≡ o
decides m n Less p h t = refl
decides m n Equal p h t = absurd (h t)
decides m n Greater p h t = refl

-- words that differ after fronts that are the same decide the order of the lists
pub differ : (xs ys : List Bool) (i n a b : ℕ) → take i xs ≡ take i ys → n ≤ length (drop i xs) → n ≤ length (drop i ys)
    → a ≡ number (take n (drop i xs)) → b ≡ number (take n (drop i ys)) → a ≢ b → nat_cmp a b ≡ slice_cmp bool_cmp xs ys
differ xs ys i n a b e h k f g d =
    sym (decides a b (nat_cmp a b) (slice_cmp bool_cmp (drop n (drop i xs)) (drop n (drop i ys))) d (ranks a b))
    ∙ ap (λ (m : ℕ). ordering_then (nat_cmp m b) (slice_cmp bool_cmp (drop n (drop i xs)) (drop n (drop i ys)))) f
    ∙ ap (λ (m : ℕ). ordering_then (nat_cmp (number (take n (drop i xs))) m)
    (slice_cmp bool_cmp (drop n (drop i xs)) (drop n (drop i ys)))) g
    ∙ sym (by-first (drop i xs) (drop i ys) n h k)
    ∙ behind xs ys i e

ended : (us vs : List Bool) (m n i : ℕ) → min (length us) (length vs) ≡ 0 → m ≡ i + length us → n ≡ i + length vs
    → nat_cmp m n ≡ slice_cmp bool_cmp us vs
ended [] [] m n i h p q = rw (le-ltb m n (omega arith), eq-eqb m n (omega arith)) refl
ended [] (v ∷ vs) m n i h p q = rw (lt-ltb m n (omega arith)) refl
ended (u ∷ us) [] m n i h p q = rw (le-ltb m n (omega arith), ne_eqb m n (λ e. omega arith)) refl
ended (u ∷ us) (v ∷ vs) m n i h p q = absurd (omega arith)

-- the last bits that both have decide, and then the lengths
pub last-bits : (xs ys : List Bool) (i n a b : ℕ) → take i xs ≡ take i ys → i + n ≡ min (length xs) (length ys)
    → a ≡ number (take n (drop i xs)) → b ≡ number (take n (drop i ys))
    → ordering_then (nat_cmp a b) (nat_cmp (length xs) (length ys)) ≡ slice_cmp bool_cmp xs ys
last-bits xs ys i n a b e m f g =
    let us = drop n (drop i xs) in
    let vs = drop n (drop i ys) in
    let h : n ≤ length (drop i xs) = omega (arith, m, length-drop i xs) in
    let k : n ≤ length (drop i ys) = omega (arith, m, length-drop i ys) in
    let p : length xs ≡ i + n + length us = omega (arith, m, length-drop i xs, length-drop n (drop i xs)) in
    let q : length ys ≡ i + n + length vs = omega (arith, m, length-drop i ys, length-drop n (drop i ys)) in
    ap (λ (o : Ordering). ordering_then (nat_cmp a b) o)
    (ended us vs (length xs) (length ys) (i + n) (omega (arith, m, p, q)) p q)
    ∙ ap (λ (l : ℕ). ordering_then (nat_cmp l b) (slice_cmp bool_cmp us vs)) f
    ∙ ap (λ (l : ℕ). ordering_then (nat_cmp (number (take n (drop i xs))) l) (slice_cmp bool_cmp us vs)) g
    ∙ sym (by-first (drop i xs) (drop i ys) n h k)
    ∙ behind xs ys i e

-- a comparison that is counted as 1 is equality
pub equal_index : (o : Ordering) → (ordering_index o == 1) ≡ is_eq o
equal_index Less = refl
equal_index Equal = refl
equal_index Greater = refl

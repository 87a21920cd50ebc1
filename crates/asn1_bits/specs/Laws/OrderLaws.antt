-- Laws of the order of lists of bits: the first bit in which two differ decides it.
use Rattle.std.proofs.Common.{◌≡◌, ℕ, ◌+◌, ◌*◌, ◌^◌, ◌<◌, Bool, true, false, List, [], ◌∷◌, ◌++◌, length, refl, sym, ap, ◌∙◌, arith, Ordering}
use Rattle.std.specs.declared.cmp.Ordering.TheVariants.{Less, Equal, Greater}
use Rattle.std.specs.Ordering.{MatchOrdering, bool_cmp, nat_cmp, ordering_then}
use Rattle.std.specs.Cmp.{nat_cmp_is}
use Rattle.std.specs.Cmp.Derive.{then_next}
use Rattle.asn1_bits.specs.Bits.{number}
use Rattle.asn1_bits.specs.BitLists.{bits_cmp}
use Rattle.asn1_bits.specs.Laws.NumberLaws.{number-cons, number-lt}

-- two numbers are ordered as others are
ordered : (o : Ordering) (m n p q : ℕ) → (m < n → p < q) → (m ≡ n → p ≡ q) → (n < m → q < p)
    → MatchOrdering o (m < n) (m ≡ n) (n < m) → MatchOrdering o (p < q) (p ≡ q) (q < p)
ordered Less m n p q f g h t = f t
ordered Equal m n p q f g h t = g t
ordered Greater m n p q f g h t = h t

-- the first of two lists of one length is below, equal or above as its number is
ranks_of : (us vs : List Bool) → length us ≡ length vs
    → MatchOrdering (bits_cmp us vs) (number us < number vs) (number us ≡ number vs) (number vs < number us)
ranks_of [] [] h = refl
ranks_of [] (v ∷ vs) h = absurd (omega arith)
ranks_of (u ∷ us) [] h = absurd (omega arith)
ranks_of (true ∷ us) (true ∷ vs) h =
    let n : length us ≡ length vs = omega arith in
    let a : number (true ∷ us) ≡ 1 * 2 ^ length vs + number us = rw (number-cons true us, n) refl in
    let b : number (true ∷ vs) ≡ 1 * 2 ^ length vs + number vs = number-cons true vs in
    ordered (bits_cmp us vs) (number us) (number vs) (number (true ∷ us)) (number (true ∷ vs))
    (λ t. omega (arith, t, a, b)) (λ t. omega (arith, t, a, b)) (λ t. omega (arith, t, a, b)) (ranks_of us vs n)
ranks_of (false ∷ us) (false ∷ vs) h =
    let n : length us ≡ length vs = omega arith in
    let a : number (false ∷ us) ≡ 0 * 2 ^ length vs + number us = rw (number-cons false us, n) refl in
    let b : number (false ∷ vs) ≡ 0 * 2 ^ length vs + number vs = number-cons false vs in
    ordered (bits_cmp us vs) (number us) (number vs) (number (false ∷ us)) (number (false ∷ vs))
    (λ t. omega (arith, t, a, b)) (λ t. omega (arith, t, a, b)) (λ t. omega (arith, t, a, b)) (ranks_of us vs n)
ranks_of (false ∷ us) (true ∷ vs) h =
    let n : length us ≡ length vs = omega arith in
    let a : number (false ∷ us) ≡ 0 * 2 ^ length vs + number us = rw (number-cons false us, n) refl in
    let b : number (true ∷ vs) ≡ 1 * 2 ^ length vs + number vs = number-cons true vs in
    let c : number us < 2 ^ length vs = rw (sym n) (number-lt us) in
    omega (arith, a, b, c)
ranks_of (true ∷ us) (false ∷ vs) h =
    let n : length us ≡ length vs = omega arith in
    let a : number (true ∷ us) ≡ 1 * 2 ^ length vs + number us = rw (number-cons true us, n) refl in
    let b : number (false ∷ vs) ≡ 0 * 2 ^ length vs + number vs = number-cons false vs in
    let c : number vs < 2 ^ length vs = number-lt vs in
    omega (arith, a, b, c)

-- lists of one length are ordered as their numbers
pub by_number : (us vs : List Bool) → length us ≡ length vs → bits_cmp us vs ≡ nat_cmp (number us) (number vs)
by_number us vs h = nat_cmp_is (number us) (number vs) (bits_cmp us vs) (ranks_of us vs h)

-- fronts of one length decide first
pub by_fronts : (us vs xs ys : List Bool) → length us ≡ length vs
    → bits_cmp (us ++ xs) (vs ++ ys) ≡ ordering_then (bits_cmp us vs) (bits_cmp xs ys)
by_fronts [] [] xs ys h = refl
by_fronts [] (v ∷ vs) xs ys h = absurd (omega arith)
by_fronts (u ∷ us) [] xs ys h = absurd (omega arith)
by_fronts (u ∷ us) (v ∷ vs) xs ys h =
    ap (λ (o : Ordering). ordering_then (bool_cmp u v) o) (by_fronts us vs xs ys (omega arith))
    ∙ then_next (bool_cmp u v) (bits_cmp us vs) (bits_cmp xs ys) refl refl

same_bit : (b : Bool) (o : Ordering) → ordering_then (bool_cmp b b) o ≡ o
same_bit true o = refl
same_bit false o = refl

-- fronts that are the same decide nothing
pub same_front : (zs us vs : List Bool) → bits_cmp (zs ++ us) (zs ++ vs) ≡ bits_cmp us vs
same_front [] us vs = refl
same_front (z ∷ zs) us vs = same_bit z (bits_cmp (zs ++ us) (zs ++ vs)) ∙ same_front zs us vs

-- Laws of the order of encodings: the first bit in which two differ decides it, where the first is no beginning of the second.
use Rattle.std.proofs.Common.{◌≡◌, ℕ, ◌+◌, ◌*◌, ◌^◌, ◌<◌, ◌≤◌, Bool, true, false, List, [], ◌∷◌, ◌++◌, length, refl, sym, ◌∙◌, ap, subst, arith}
use Rattle.std.proofs.Math.Nat.{add-mul, mul_assoc, mul_comm, mul_right_comm, mul-le-mul_right, mul-lt-mul_of_pos_right, pow-suc, zero-mul, one-mul}
use Rattle.std.proofs.lemmas.Nat.{pow_pos}
use Rattle.std.specs.declared.cmp.Ordering.TheVariants.{Less, Equal, Greater}
use Rattle.asn1_bits.specs.Bits.{number}
use Rattle.asn1_bits.specs.BitLists.{bits_cmp}
use Rattle.asn1_bits.specs.Laws.NumberLaws.{number-nil, number-cons, number-lt}
use Rattle.asn1_schema.specs.Order.{IsBefore}

-- the list is no proper beginning of the other
abbrev pub IsNoFront : List Bool → List Bool → Type 0
IsNoFront us vs = (more : List Bool) → vs ≡ us ++ more → length more ≡ 0

expand : (a m q : ℕ) → (a + m) * (q * 2) ≡ a * q * 2 + m * q * 2
expand a m q = add-mul a m (q * 2) ∙ cc (sym (mul_assoc a q 2), sym (mul_assoc m q 2))

doubled : (x y a b c d : ℕ) → x ≡ a * 2 + b * 2 → y ≡ c * 2 + d * 2 → a ≡ c → x < y → b < d
doubled x y a b c d e f g h = omega (arith, e, f, g, h)

undoubled : (x y a b c d : ℕ) → x ≡ a * 2 + b * 2 → y ≡ c * 2 + d * 2 → a ≡ c → b < d → x < y
undoubled x y a b c d e f g h = omega (arith, e, f, g, h)

-- p and q are the powers of two of the lengths, m and n the numbers, of lists without their first bits
module _ (p q m n : ℕ) where
  -- the same first bit: b is 1 or 0
  same_down : (b : ℕ) → (b * p + m) * (q * 2) < (b * q + n) * (p * 2) → m * q < n * p
  same_down b h =
      doubled ((b * p + m) * (q * 2)) ((b * q + n) * (p * 2)) (b * p * q) (m * q) (b * q * p) (n * p) (expand (b * p) m q)
      (expand (b * q) n p) (mul_right_comm b p q) h

  same_up : (b : ℕ) → m * q < n * p → (b * p + m) * (q * 2) < (b * q + n) * (p * 2)
  same_up b h =
      undoubled ((b * p + m) * (q * 2)) ((b * q + n) * (p * 2)) (b * p * q) (m * q) (b * q * p) (n * p) (expand (b * p) m q)
      (expand (b * q) n p) (mul_right_comm b p q) h

  lesser : m < p → 0 < q → (0 * p + m) * (q * 2) < (1 * q + n) * (p * 2)
  lesser h k =
      let a : m * q < p * q = mul-lt-mul_of_pos_right h k in
      let e = expand (0 * p) m q in
      let f = expand (1 * q) n p in
      let g : q * p ≡ p * q = mul_comm q p in
      let z : 0 * p * q ≡ 0 = ap (λ (i : ℕ). i * q) (zero-mul p) ∙ zero-mul q in
      let w : 1 * q * p ≡ q * p = ap (λ (i : ℕ). i * p) (one-mul q) in
      omega (arith, a, e, f, g, z, w)

  greater : n < q → (1 * p + m) * (q * 2) < (0 * q + n) * (p * 2) → ⊥
  greater h k =
      let a : n * p ≤ q * p = mul-le-mul_right p (omega (arith, h)) in
      let e = expand (1 * p) m q in
      let f = expand (0 * q) n p in
      let g : q * p ≡ p * q = mul_comm q p in
      let z : 0 * q * p ≡ 0 = ap (λ (i : ℕ). i * p) (zero-mul q) ∙ zero-mul p in
      let w : 1 * p * q ≡ p * q = ap (λ (i : ℕ). i * q) (one-mul p) in
      omega (arith, a, e, f, g, z, w, k)

-- the comparison of two lists, each with a first bit, by the numbers of the others
abbrev Rest : ℕ → ℕ → List Bool → List Bool → Type 0
Rest b c us vs =
    (b * 2 ^ length us + number us) * (2 ^ length vs * 2) < (c * 2 ^ length vs + number vs) * (2 ^ length us * 2)

abbrev bit_of : Bool → ℕ
bit_of true = 1
bit_of false = 0

number_of : (b : Bool) (us : List Bool) → number (b ∷ us) ≡ bit_of b * 2 ^ length us + number us
number_of true us = number-cons true us
number_of false us = number-cons false us

same_products : (a b c d x y z w : ℕ) → a ≡ x → b ≡ y → c ≡ z → d ≡ w → a * b < c * d → x * y < z * w
same_products a b c d x y z w p q r s h =
    subst (λ (i : ℕ). i * y < z * w) p
    (subst (λ (i : ℕ). a * i < z * w) q (subst (λ (i : ℕ). a * b < i * w) r (subst (λ (i : ℕ). a * b < c * i) s h)))

longer : (b : Bool) (us : List Bool) → 2 ^ length (b ∷ us) ≡ 2 ^ length us * 2
longer b us = pow-suc 2 (length us)

to_rest : (b c : Bool) (us vs : List Bool) → IsBefore (b ∷ us) (c ∷ vs) → Rest (bit_of b) (bit_of c) us vs
to_rest b c us vs h =
    same_products (number (b ∷ us)) (2 ^ length (c ∷ vs)) (number (c ∷ vs)) (2 ^ length (b ∷ us)) (bit_of b * 2 ^ length us + number us)
    (2 ^ length vs * 2) (bit_of c * 2 ^ length vs + number vs) (2 ^ length us * 2) (number_of b us) (longer c vs) (number_of c vs) (longer b us) h

from_rest : (b c : Bool) (us vs : List Bool) → Rest (bit_of b) (bit_of c) us vs → IsBefore (b ∷ us) (c ∷ vs)
from_rest b c us vs h =
    same_products (bit_of b * 2 ^ length us + number us) (2 ^ length vs * 2) (bit_of c * 2 ^ length vs + number vs) (2 ^ length us * 2)
    (number (b ∷ us)) (2 ^ length (c ∷ vs)) (number (c ∷ vs)) (2 ^ length (b ∷ us)) (sym (number_of b us)) (sym (longer c vs))
    (sym (number_of c vs)) (sym (longer b us)) h

not_less_greater : Greater ≡ Less → ⊥
not_less_greater e = cc

not_less_equal : Equal ≡ Less → ⊥
not_less_equal e = cc

no_front_after : (b : Bool) (us vs : List Bool) → IsNoFront (b ∷ us) (b ∷ vs) → IsNoFront us vs
no_front_after b us vs h more e = h more (ap (λ (l : List Bool). b ∷ l) e)

nothing_before_nothing : (vs : List Bool) → number [] * 2 ^ length vs ≡ 0
nothing_before_nothing vs = ap (λ (n : ℕ). n * 2 ^ length vs) number-nil ∙ zero-mul (2 ^ length vs)

-- a list that the comparison puts first is before the other
pub is_before : (us vs : List Bool) → IsNoFront us vs → bits_cmp us vs ≡ Less → IsBefore us vs
is_before [] [] f e = absurd (not_less_equal e)
is_before [] (v ∷ vs) f e = absurd (omega (arith, f (v ∷ vs) refl))
is_before (u ∷ us) [] f e = absurd (not_less_greater e)
is_before (true ∷ us) (true ∷ vs) f e =
    from_rest true true us vs
    (same_up (2 ^ length us) (2 ^ length vs) (number us) (number vs) 1 (is_before us vs (no_front_after true us vs f) e))
is_before (false ∷ us) (false ∷ vs) f e =
    from_rest false false us vs
    (same_up (2 ^ length us) (2 ^ length vs) (number us) (number vs) 0 (is_before us vs (no_front_after false us vs f) e))
is_before (false ∷ us) (true ∷ vs) f e =
    from_rest false true us vs
    (lesser (2 ^ length us) (2 ^ length vs) (number us) (number vs) (number-lt us) (pow_pos (length vs)))
is_before (true ∷ us) (false ∷ vs) f e = absurd (not_less_greater e)

-- and one that is before the other is put first
pub puts_first : (us vs : List Bool) → IsBefore us vs → bits_cmp us vs ≡ Less
puts_first [] [] h = absurd (let e = nothing_before_nothing [] in omega (arith, e, h))
puts_first [] (v ∷ vs) h = refl
puts_first (u ∷ us) [] h = absurd (let e = nothing_before_nothing (u ∷ us) in omega (arith, e, h))
puts_first (true ∷ us) (true ∷ vs) h =
    puts_first us vs (same_down (2 ^ length us) (2 ^ length vs) (number us) (number vs) 1 (to_rest true true us vs h))
puts_first (false ∷ us) (false ∷ vs) h =
    puts_first us vs (same_down (2 ^ length us) (2 ^ length vs) (number us) (number vs) 0 (to_rest false false us vs h))
puts_first (false ∷ us) (true ∷ vs) h = refl
puts_first (true ∷ us) (false ∷ vs) h =
    absurd (greater (2 ^ length us) (2 ^ length vs) (number us) (number vs) (number-lt vs) (to_rest true false us vs h))

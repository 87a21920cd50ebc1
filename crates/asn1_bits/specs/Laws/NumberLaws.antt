-- A number and its binary digits.
use Rattle.std.proofs.Common.{◌≡◌, ℕ, zero, suc, ◌+◌, ◌-◌, ◌*◌, ◌/◌, ◌%◌, ◌^◌, ◌<◌, ◌≤◌, Bool, true, false, cond, eqb, List, [], ◌∷◌, ◌++◌, length, take, drop, refl, sym, ap, ◌∙◌, append_assoc, arith}
use Rattle.std.specs.Prelude.{All}
use Rattle.std.proofs.Math.Nat.{mod-eq_of_lt, div-one, pow-suc, add-zero, add-suc, mul-le-mul_right, pow-le-pow_right}
use Rattle.std.proofs.lemmas.Bool.{eqb-true, eqb-false}
use Rattle.std.proofs.lemmas.List.{append-nil, ext_get_or, length-append, take_at, drop_at}
use Rattle.std.proofs.lemmas.List.Elements.{All-head, All-tail}
use Rattle.std.proofs.lemmas.Nat.{shr-shr, shr_high, mod-pow-add}
use Rattle.std.proofs.lemmas.Nat.Bits.{bit_at_cat_low}
use Rattle.std.proofs.lemmas.Grind.{fold-append}
use Rattle.asn1_bits.specs.Bits.{is_odd, digits, number, bits}
use Rattle.asn1_bits.specs.Laws.DigitLaws.{length-digits, get_or-digits}

-- one bit more after a list doubles its number
pub number-push : (list : List Bool) (bit : Bool) → number (list ++ bit ∷ []) ≡ 2 * number list + cond bit 1 0
unfolding number
number-push list bit = fold-append (λ n b. 2 * n + cond b 1 0) 0 list (bit ∷ [])

-- no bits are the number 0
pub number-nil : number [] ≡ 0
unfolding number
number-nil = refl

shifted : (a b c p q y : ℕ) → c ≡ 2 * a + b → y ≡ b → q ≡ 2 * p → (n : ℕ) → c * p + n ≡ a * q + (y * p + n)
shifted a b c p q y e f g n = rw (e, f, g) (omega arith)

-- a list's number by those of its two parts
pub number-append : (xs ys : List Bool) → number (xs ++ ys) ≡ number xs * 2 ^ length ys + number ys
number-append xs [] = ap number (append-nil xs) ∙ omega (arith, number-nil)
number-append xs (y ∷ ys) =
    sym (ap number (append_assoc xs (y ∷ []) ys))
    ∙ number-append (xs ++ y ∷ []) ys
    ∙ shifted (number xs) (cond y 1 0) (number (xs ++ y ∷ [])) (2 ^ length ys) (2 ^ suc (length ys)) (number (y ∷ []))
    (number-push xs y) (number-push [] y ∙ omega (arith, number-nil)) (omega (arith, pow-suc 2 (length ys))) (number ys)
    ∙ ap (λ (n : ℕ). number xs * 2 ^ suc (length ys) + n) (sym (number-append (y ∷ []) ys))

-- by its first bit and the rest
pub number-cons : (bit : Bool) (list : List Bool) → number (bit ∷ list) ≡ cond bit 1 0 * 2 ^ length list + number list
number-cons bit list =
    number-append (bit ∷ []) list ∙ ap (λ (n : ℕ). n * 2 ^ length list + number list)
    (number-push [] bit ∙ omega (arith, number-nil))

worth_le : (bit : Bool) → cond bit 1 0 ≤ 1
worth_le true = omega arith
worth_le false = omega arith

-- a list's number is below the power of its length
pub number-lt : (list : List Bool) → number list < 2 ^ length list
number-lt [] = omega (arith, number-nil)
number-lt (bit ∷ list) =
    rw number-cons (let p = pow-suc 2 (length list) in let h = number-lt list in
    let w : cond bit 1 0 * 2 ^ length list ≤ 1 * 2 ^ length list = mul-le-mul_right (2 ^ length list) (worth_le bit) in
    omega arith)

-- what the lowest digit is worth
pub worth-is_odd : (n : ℕ) → cond (is_odd n) 1 0 ≡ n % 2
worth-is_odd n = elim (is_odd n) as (λ b. is_odd n ≡ b → cond b 1 0 ≡ n % 2) [
  | true ↦ λ e. sym (eqb-true (n % 2) 1 e)
  | false ↦ λ e. (let ne = eqb-false (n % 2) 1 e in omega arith)
] refl

-- the number of the lowest `width` digits is the remainder
pub number-digits : (n width : ℕ) → number (digits n width) ≡ n % 2 ^ width
unfolding digits number
number-digits n zero = omega arith
number-digits n (suc width) =
    number-push (digits (n / 2) width) (is_odd n)
    ∙ (let low = number-digits (n / 2) width in
    let bit = worth-is_odd n in
    let split = mod-pow-add n width 1 in
    let e : n % 2 ^ (width + 1) ≡ n % 2 ^ suc width = ap (λ (j : ℕ). n % 2 ^ j) (omega arith) in
    omega arith)

-- digits are those of the upper part and those of the lower
pub digits-append : (n i j : ℕ) → digits n (i + j) ≡ digits (n / 2 ^ j) i ++ digits n j
unfolding digits
digits-append n i zero = rw (add-zero, div-one, append-nil) refl
digits-append n i (suc j) =
    rw add-suc
    (ap (λ (l : List Bool). l ++ is_odd n ∷ []) (digits-append (n / 2) i j)
    ∙ append_assoc (digits (n / 2 / 2 ^ j) i) (digits (n / 2) j) (is_odd n ∷ [])
    ∙ ap (λ (m : ℕ). digits m i ++ (digits (n / 2) j ++ is_odd n ∷ []))
    (shr-shr n 1 j ∙ ap (λ (k : ℕ). n / 2 ^ k) (let e : 1 + j ≡ suc j = omega arith in e)))

-- higher digits do not count
pub digits-low : (a b width : ℕ) → digits (a * 2 ^ width + b) width ≡ digits b width
digits-low a b width =
    ext_get_or false (digits (a * 2 ^ width + b) width) (digits b width)
    (length-digits (a * 2 ^ width + b) width ∙ sym (length-digits b width)) (λ i h.
    let lt : i < width = omega (arith, length-digits (a * 2 ^ width + b) width) in
    get_or-digits (a * 2 ^ width + b) width i (width - 1 - i) (omega arith)
    ∙ ap (λ (m : ℕ). eqb m 1) (bit_at_cat_low a width b (width - 1 - i) (omega arith))
    ∙ sym (get_or-digits b width i (width - 1 - i) (omega arith)))

one_digit : (bit : Bool) → digits (cond bit 1 0) 1 ≡ bit ∷ []
unfolding digits
one_digit true = refl
one_digit false = refl

-- the digits of a list's number are the list
pub digits-number : (list : List Bool) → digits (number list) (length list) ≡ list
unfolding digits
digits-number [] = refl
digits-number (bit ∷ list) =
    let n = number list in let w = length list in
    ap (λ (m : ℕ). digits m (suc w)) (number-cons bit list)
    ∙ ap (digits (cond bit 1 0 * 2 ^ w + n)) (let e : suc w ≡ 1 + w = omega arith in e)
    ∙ digits-append (cond bit 1 0 * 2 ^ w + n) 1 w
    ∙ ap (λ (m : ℕ). digits m 1 ++ digits (cond bit 1 0 * 2 ^ w + n) w) (shr_high (cond bit 1 0) w n (number-lt list))
    ∙ ap (λ (l : List Bool). l ++ digits (cond bit 1 0 * 2 ^ w + n) w) (one_digit bit)
    ∙ ap (λ (l : List Bool). bit ∷ l) (digits-low (cond bit 1 0) n w ∙ digits-number list)

-- a number of at most k digits
pub number-below : (list : List Bool) (k : ℕ) → length list ≤ k → number list < 2 ^ k
number-below list k h =
    let top : 2 ^ length list ≤ 2 ^ k = pow-le-pow_right {n = 2} (omega arith) {i = length list} {j = k} h in
    omega (arith, number-lt list, top)

-- a number of a list is below the power of its length, and its digits are the list
pub number_is : (list : List Bool) (n width : ℕ) → length list ≡ width → n ≡ number list → (n < 2 ^ width)
    × (digits n width ≡ list)
number_is list n width e is =
    (rw (is, ← e) (number-lt list), rw (is, ← e) (digits-number list))

-- the number of a number's digits, where it fits them
pub number_of-digits : (n width : ℕ) → n < 2 ^ width → number (digits n width) ≡ n
number_of-digits n width h = number-digits n width ∙ mod-eq_of_lt h

-- the digits of a list's number
pub digits_of-number : (list : List Bool) (width : ℕ) → length list ≡ width → digits (number list) width ≡ list
digits_of-number list width e = (number_is list (number list) width e refl).1

-- octets that have the same bits are the same
pub same_octets : (o p : List ℕ) → All (λ octet. octet < 256) o → All (λ octet. octet < 256) p → bits o ≡ bits p → o ≡ p
unfolding bits
same_octets [] [] of_o of_p e = refl
same_octets [] (y ∷ ys) of_o of_p e =
    absurd (omega (arith, ap length e, length-append (digits y 8) (bits ys), length-digits y 8))
same_octets (x ∷ xs) [] of_o of_p e =
    absurd (omega (arith, ap length e, length-append (digits x 8) (bits xs), length-digits x 8))
same_octets (x ∷ xs) (y ∷ ys) of_o of_p e =
    let l = length-digits x 8 in
    let m = length-digits y 8 in
    let first : digits x 8 ≡ digits y 8 =
    sym (take_at (digits x 8) (bits xs) 8 l) ∙ ap (take 8) e ∙ take_at (digits y 8) (bits ys) 8 m in
    let others : bits xs ≡ bits ys =
    sym (drop_at (digits x 8) (bits xs) 8 l) ∙ ap (drop 8) e ∙ drop_at (digits y 8) (bits ys) 8 m in
    let head : x ≡ y =
    sym (number_of-digits x 8 (All-head (λ octet. octet < 256) x xs of_o)) ∙ ap number first
    ∙ number_of-digits y 8 (All-head (λ octet. octet < 256) y ys of_p) in
    let tail =
    same_octets xs ys (All-tail (λ octet. octet < 256) x xs of_o) (All-tail (λ octet. octet < 256) y ys of_p)
    others in
    λ i. head i ∷ tail i

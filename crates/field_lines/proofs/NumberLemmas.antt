-- Numbers and their decimals.
use Rattle.std.proofs.Common.{◌≡◌, ℕ, zero, suc, ◌+◌, ◌-◌, ◌*◌, ◌^◌, ◌<◌, ◌≤◌, List, length, get_or, take, decimal, sym, ap, ◌∙◌, subst, arith}
use Rattle.std.specs.Int.{IsInRange}
use Rattle.std.specs.Char.{digit_value}
use Rattle.std.specs.Str.Parse.{AllDigits, digits_value}
use Rattle.std.proofs.lemmas.Fmt.{decimal_is_IsNumeral, decimal_digit, decimal_nonempty, first_decimal, length-decimal-le, decimal-digits_value, decimal_injective}
use Rattle.std.proofs.lemmas.Int.Digits.{digits_value-lt, digits_more, digits_value_more}
use Rattle.std.proofs.lemmas.List.{length-take-le}
use Rattle.std.proofs.lemmas.Str.{digit_value_digit}
use Rattle.std.proofs.Math.Nat.{pow-le-pow_right}
use Rattle.std.proofs.lemmas.Str.Parse.{IsNumeralModel, numerals_by_value, tells_digits, digit_at, digits_value_short}
use Rattle.field_lines.specs.Input.{IsNumber}

own : IsNumeralModel (AllDigits 10) (digits_value 10)
own = numerals_by_value (AllDigits 10) tells_digits

-- ---- texts that are no numbers

pub empty_is_none : (text : List ℕ) (n : ℕ) → length text ≡ 0 → IsNumber text n → ⊥
empty_is_none text n empty h = let small : n < 10 ^ 9 =
    h.1 in omega (arith, ap length h.0, decimal_nonempty n (omega arith))

pub ten_digits_are_none : (text : List ℕ) (n : ℕ) → 9 < length text → IsNumber text n → ⊥
ten_digits_are_none text n long h = let small : n < 10 ^ 9 =
    h.1 in omega (arith, ap length h.0, length-decimal-le 9 n (omega arith) small (omega arith))

leading_zero : (n : ℕ) → n < 10 ^ 9 → get_or (decimal n) 0 0 ≡ 48 → 1 < length (decimal n) → ⊥
leading_zero zero small first long = let one : length (decimal 0) ≡ 1 =
    ap length (decimal_digit 0 (omega arith)) in omega arith
leading_zero (suc n) small first long = omega (arith, first_decimal (suc n) (omega arith) (omega arith))

pub leading_zero_is_none : (text : List ℕ) (n : ℕ) → get_or text 0 0 ≡ 48 → 1 < length text → IsNumber text n → ⊥
leading_zero_is_none text n first long h = leading_zero n h.1 (rw h.0 at first) (rw h.0 at long)

pub other_octet_is_none : (text : List ℕ) (n i c : ℕ) → i < length text → c ≡ get_or text i 0 → (IsInRange 48 57 c → ⊥)
    → IsNumber text n → ⊥
other_octet_is_none text n i c here is none h =
    let small : n < 10 ^ 9 = h.1 in
    let digits : AllDigits 10 text =
    subst (λ (l : List ℕ). AllDigits 10 l) (sym h.0) (decimal_is_IsNumeral n (omega arith)).0.1 in
    none (subst (λ (k : ℕ). IsInRange 48 57 k) (sym is) (digit_at text i digits here))

-- ---- digits so far

pub eight_below : (text : List ℕ) (i n : ℕ) → i < 9 → i ≤ length text → AllDigits 10 (take i text)
    → n ≡ digits_value 10 (take i text) → n < 10 ^ 8
eight_below text i n few here digits is =
    let e : length (take i text) ≡ i = length-take-le i text here in
    let below : n < 10 ^ i = subst (λ (k : ℕ). n < 10 ^ k) e (rw (← is) at (digits_value-lt 10 (take i text) digits)) in
    let most : 10 ^ i ≤ 10 ^ 8 = pow-le-pow_right {n = 10} (omega arith) {i = i} {j = 8} (omega arith) in
    omega arith

pub one_more_digit : (text : List ℕ) (i n d : ℕ) → i < length text → AllDigits 10 (take i text)
    → n ≡ digits_value 10 (take i text) → IsInRange 48 57 (get_or text i 0) → get_or text i 0 - 48 ≡ d
    → AllDigits 10 (take (i + 1) text) × (n * 10 + d ≡ digits_value 10 (take (i + 1) text))
one_more_digit text i n d here digits is range value =
    let c = get_or text i 0 in
    let of_digit : digit_value c + 48 ≡ c = digit_value_digit c range in
    let low : 48 ≤ c = range.0 in
    let high : c ≤ 57 = range.1 in
    let same : digit_value c ≡ d = omega arith in (
      digits_more 10 text i here digits (omega arith),
      ap (λ (k : ℕ). k * 10 + d) is ∙ ap (λ (k : ℕ). digits_value 10 (take i text) * 10 + k) (sym same)
          ∙ sym (digits_value_more 10 text i here),
    )

-- ---- a text that is a number

pub digits_are_number : (text : List ℕ) (n : ℕ) → AllDigits 10 text → n ≡ digits_value 10 text → 0 < length text
    → length text ≤ 9 → (get_or text 0 0 ≡ 48 → length text ≡ 1) → IsNumber text n
digits_are_number text n digits is some few lead =
    let below : n < 10 ^ 9 = subst (λ (k : ℕ). k < 10 ^ 9) (sym is) (digits_value_short own text 9 digits few) in
    let small : digits_value 10 text < 2 ^ 64 = omega arith in
    (sym (decimal-digits_value own text digits some lead small) ∙ ap decimal (sym is), below)

pub one_number : (text : List ℕ) (m n : ℕ) → IsNumber text m → IsNumber text n → m ≡ n
one_number text m n p q =
    let first : m < 10 ^ 9 = p.1 in
    let second : n < 10 ^ 9 = q.1 in
    decimal_injective m n (omega arith) (omega arith) (sym p.0 ∙ q.0)

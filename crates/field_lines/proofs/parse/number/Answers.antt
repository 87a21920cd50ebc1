use Rattle.std.proofs.Common.{◌≡◌, ◌<◌, length, take_all, inl, inr, sym, refl, arith}
use Rattle.std.proofs.lemmas.Bool.Decides.{nat_tests}
use Rattle.field_lines.proofs.NumberLemmas.{empty_is_none, ten_digits_are_none, leading_zero_is_none, other_octet_is_none, eight_below, one_more_digit, digits_are_number}
use Rattle.field_lines.proofs.parse.number.Goals as goal

pub returns-then-is_empty : goal.returns-then-is_empty
returns-then-is_empty c = λ n h.
    let none : length c.args.digits.now ≡ 0 = grind (arith, nat_tests) in empty_is_none c.args.digits.now n none h

pub returns-then-digits-gt9 : goal.returns-then-digits-gt9
returns-then-digits-gt9 c = λ n h. ten_digits_are_none c.args.digits.now n c.if-digits-gt9.true h

pub returns-then-digits-gt1 : goal.returns-then-digits-gt1
returns-then-digits-gt1 c = λ n h.
    leading_zero_is_none c.args.digits.now n c.if-digits-eq48.true c.if-digits-gt1.true h

pub overflow_mul-value : goal.overflow_mul-value
overflow_mul-value c =
    let i = c.loop-digit.digit-index in
    let below =
    eight_below c.args.digits.now i c.loop-digit.value (omega arith) (omega arith) c.loop-digit.invariant.digits
    c.loop-digit.invariant.value in
    omega (arith, below)

pub returns-in_err-value : goal.returns-in_err-value
returns-in_err-value c =
    rw c.from_residual.ensures
    (λ n h. other_octet_is_none c.args.digits.now n c.loop-digit.digit-index _ c.loop-digit-test.true refl
    c.in_err-value.ensures h)

pub overflow_add-value : goal.overflow_add-value
overflow_add-value c =
    let i = c.loop-digit.digit-index in
    let below =
    eight_below c.args.digits.now i c.loop-digit.value (omega arith) (omega arith) c.loop-digit.invariant.digits
    c.loop-digit.invariant.value in
    omega (arith, below, c.in_ok-value.ensures)

pub loop-digit-preserved : goal.loop-digit-preserved
loop-digit-preserved c =
    let more =
    one_more_digit c.args.digits.now c.loop-digit.digit-index c.loop-digit.value c.in_ok-value.field-0
    c.loop-digit-test.true c.loop-digit.invariant.digits c.loop-digit.invariant.value c.in_ok-value.ensures.0
    (sym c.in_ok-value.ensures.1) in
    record { digits = more.0; value = more.1 }

pub returns : goal.returns
returns c =
    let text = c.args.digits.now in
    let all = take_all c.loop-digit.digit-index text c.loop-digit-test.false in
    let some : 0 < length text = grind (arith, nat_tests) in
    digits_are_number text c.loop-digit.value (rw all at c.loop-digit.invariant.digits)
    (rw all at c.loop-digit.invariant.value) some c.if-digits-gt9.false
    (λ zero. elim c.else-digits-eq48.either [ inl h ↦ omega (arith, h.1) | inr h ↦ absurd (h zero) ])

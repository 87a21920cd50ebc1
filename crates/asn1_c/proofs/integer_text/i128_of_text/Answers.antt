use Rattle.std.proofs.Common.{◌∙◌, ◌≡◌, ap, sym, subst, rules, tests}
use Rattle.std.specs.Fmt.{signed_decimal}
use Rattle.std.specs.Str.{IsUtf8}
use Rattle.std.proofs.lemmas.Str.{IsUtf8-from_ascii}
use Rattle.asn1_c.proofs.DecimalLemmas.{ascii_text, wide_signed, parsed_text}
use Rattle.asn1_c.proofs.integer_text.i128_of_text.Goals as goal

pub returns-in_default-clause-none : goal.returns-in_default-clause-none
returns-in_default-clause-none c =
    λ n fits e. c.in_default.ensures.cases.0 (subst IsUtf8 e (IsUtf8-from_ascii _ (ascii_text n (wide_signed n fits))))

pub returns-in_default-parse-clause-none : goal.returns-in_default-parse-clause-none
returns-in_default-parse-clause-none c = λ n fits e.
    c.in_default-parse.not-Ok n (parsed_text n c.in-Ok.digits.now c.parse.result fits
    (c.in-Ok.ensures.cases.0 ∙ sym e) c.parse.ensures.value.0)

pub returns-else-eq-clause-none : goal.returns-else-eq-clause-none
returns-else-eq-clause-none c = λ n fits e.
    let read = parsed_text n c.in-Ok.digits.now c.parse.result fits (c.in-Ok.ensures.cases.0 ∙ sym e)
    c.parse.ensures.value.0 in
    let number : c.in-Ok-parse.number ≡ n = let both = sym c.in-Ok-parse.is ∙ read in cc in
    let is : c.format.result.now ≡ signed_decimal c.in-Ok-parse.number = search rules in
    let same : c.format.result.now ≡ c.in-Ok.digits.now = is ∙ ap signed_decimal number ∙ e
    ∙ sym c.in-Ok.ensures.cases.0 in
    let differs : c.format.result.now ≡ c.in-Ok.digits.now → ⊥ = search (rules, tests) in
    differs same

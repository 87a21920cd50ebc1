use Rattle.std.proofs.Common.{◌∙◌, ◌≡◌, ap, sym, subst, arith, rules, tests}
use Rattle.std.specs.Fmt.{decimal}
use Rattle.std.specs.Str.{IsUtf8}
use Rattle.std.proofs.lemmas.Fmt.{IsAscii-decimal, parse-decimal}
use Rattle.std.proofs.lemmas.Str.{IsUtf8-from_ascii}
use Rattle.asn1_oid.proofs.parse.number_of.Goals as goal

pub returns-in_default-clause-none : goal.returns-in_default-clause-none
returns-in_default-clause-none c =
    λ n lt e. c.in_default.ensures.cases.0 (subst IsUtf8 e (IsUtf8-from_ascii _ (IsAscii-decimal n (omega arith))))

pub returns-in_default-parse-clause-none : goal.returns-in_default-parse-clause-none
returns-in_default-parse-clause-none c = λ n lt e.
    c.in_default-parse.not-Ok n (parse-decimal 32 n c.in-Ok.digits.now c.parse.result lt (omega arith)
    (c.in-Ok.ensures.cases.0 ∙ sym e) c.parse.ensures.value.0)

pub returns-else-eq-clause-none : goal.returns-else-eq-clause-none
returns-else-eq-clause-none c = λ n lt e.
    let read =
    parse-decimal 32 n c.in-Ok.digits.now c.parse.result lt (omega arith) (c.in-Ok.ensures.cases.0 ∙ sym e)
    c.parse.ensures.value.0 in
    let number : c.in-Ok-parse.number ≡ n = let both = sym c.in-Ok-parse.is ∙ read in cc in
    let is : c.format.result.now ≡ decimal c.in-Ok-parse.number = search rules in
    let same : c.format.result.now ≡ c.in-Ok.digits.now = is ∙ ap decimal number ∙ e ∙ sym c.in-Ok.ensures.cases.0 in
    let differs : c.format.result.now ≡ c.in-Ok.digits.now → ⊥ = search (rules, tests) in
    differs same

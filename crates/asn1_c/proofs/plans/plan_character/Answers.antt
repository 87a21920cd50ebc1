use Rattle.std.proofs.Common.{◌∙◌, inr, arith}
use Rattle.asn1_alphabets.specs.AlphabetView.{alphabet_of}
use Rattle.asn1_c.proofs.PlanLemmas.{character_named, not_in_alphabet}
use Rattle.asn1_c.proofs.plans.plan_character.Goals as goal

pub returns-in-Ok-clause-named : goal.returns-in-Ok-clause-named
returns-in-Ok-clause-named c = λ source.
    let made = c.of_number.ensures in
    let few = c.if-field-gt4294967295.false in
    character_named source c.args.field.now (alphabet_of c.args.alphabet.now) c.in-Ok.code c.width.result
    c.of_number.result made.no_octet made.no_bits.1 (made.number.0 ∙ c.from.ensures) made.number.1 c.width.ensures.value
    c.in-Ok.ensures.0 (omega arith)

pub returns-in-Err-clause-wrong : goal.returns-in-Err-clause-wrong
returns-in-Err-clause-wrong c = λ source.
    inr (not_in_alphabet (alphabet_of c.args.alphabet.now) c.args.field.now c.with-in-Err.result
    c.with-in-Err.ensures.code (c.with-in-Err.ensures.number ∙ c.from-in-Err.ensures) c.in-Err.ensures.1)

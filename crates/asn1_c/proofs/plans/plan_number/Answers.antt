use Rattle.std.proofs.Common.{◌∙◌, arith}
use Rattle.asn1_c.proofs.PlanLemmas.{number_named, too_wide}
use Rattle.asn1_c.proofs.plans.plan_number.Goals as goal

pub returns-then-width-gt128-clause-wrong : goal.returns-then-width-gt128-clause-wrong
returns-then-width-gt128-clause-wrong c = λ source.
    too_wide c.args.field.now c.args.width c.with.result c.with.ensures.code c.with.ensures.number c.if-width-gt128.true

pub returns-clause-named : goal.returns-clause-named
returns-clause-named c = λ source.
    let made = c.of_number.ensures in
    let few = c.if-width-gt128.false in
    let fits = c.fits_width.ensures.0 c.if-not-fits_width.false in
    number_named source c.args.field.now c.args.width c.of_number.result made.no_octet made.no_bits.1
    (made.number.0 ∙ c.number-number.ensures) made.number.1 few (omega (arith, fits, c.number-number.ensures))

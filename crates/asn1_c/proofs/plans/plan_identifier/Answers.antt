use Rattle.std.proofs.Common.{◌∙◌, refl, sym}
use Rattle.asn1_values.specs.Fields as plain
use Rattle.asn1_c.proofs.PlanLemmas.{read_named}
use Rattle.asn1_c.proofs.plans.plan_identifier.Goals as goal

pub returns-in-Ok-read_identifier-clause-named : goal.returns-in-Ok-read_identifier-clause-named
returns-in-Ok-read_identifier-clause-named c =
    let b = c.in-Ok.ensures.bits in
    let l = c.in-Ok.ensures.lies in
    read_named c.args.source.now c.args.field.now c.in-Ok.plan b.2 b.3 b.0 b.1 l.1 (plain.OfIdentifier c.args.count)
    c.in-Ok-read_identifier.field-0 c.in-Ok-read_identifier.ensures.read
    (c.in-Ok-read_identifier.ensures.place.1 ∙ sym l.0 ∙ b.1) refl

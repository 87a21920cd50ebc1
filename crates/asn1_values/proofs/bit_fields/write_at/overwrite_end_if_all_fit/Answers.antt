use Rattle.std.proofs.Common.{take, arith}
use Rattle.asn1_values.specs.Fields.{IsSpelledBy}
use Rattle.asn1_values.specs.Plain.{plain_fields, plain_field}
use Rattle.asn1_values.proofs.SpellingLemmas.{ends_none, ends_more, more_of}
use Rattle.asn1_values.proofs.bit_fields.write_at.overwrite_end_if_all_fit.Goals as goal

pub loop-field-init : goal.loop-field-init
loop-field-init c = ends_none IsSpelledBy c.args.position c.ranges.position.fits

pub loop-field-preserved : goal.loop-field-preserved
loop-field-preserved c =
    let fs = c.args.fields.now in
    let i = c.loop-field.field-index in
    let x = c.field-item.result in
    rw (more_of fs i x c.loop-field-test.true c.field-item.is)
    (ends_more IsSpelledBy c.args.position c.loop-field.end c.in-Ok.additional c.in_ok-end.end
    (plain_fields (take i fs)) (plain_field x) c.loop-field.invariant c.in-Ok.ensures.ok
    (omega (arith, c.in_ok-end.ensures)))

use Rattle.std.proofs.Common.{take, drop, ◌+◌, arith}
use Rattle.asn1_values.specs.Plain.{plain_fields, plain_field}
use Rattle.asn1_values.specs.Steps.{TakesBits}
use Rattle.asn1_values.proofs.SpellingLemmas.{ends_none, ends_more, more_of, cut_of, parts_of, all_taken, spelled_taken}
use Rattle.asn1_values.proofs.bit_fields.write.append_end_if_all_fit.Goals as goal

pub loop-field-init : goal.loop-field-init
loop-field-init c = ends_none TakesBits c.args.len c.ranges.len.fits

-- ---- too many bits

pub returns-in_err-len_if_fits : goal.returns-in_err-len_if_fits
returns-in_err-len_if_fits c =
    let fs = c.args.fields.now in
    let i = c.loop-field.field-index in
    let x = c.field-item.result in
    rw c.from_residual.ensures (λ list s.
    let p =
    parts_of (plain_fields fs) (plain_fields (take i fs)) (plain_fields (drop (i + 1) fs)) (plain_field x)
    (cut_of fs i x c.loop-field-test.true c.field-item.is) list s in
    absurd (c.in_err-len_if_fits.ensures (p.1, p.3)))

pub returns-in_err-end : goal.returns-in_err-end
returns-in_err-end c =
    let fs = c.args.fields.now in
    let i = c.loop-field.field-index in
    let x = c.field-item.result in
    let ends = c.loop-field.invariant in
    rw c.from_residual-in_err-end.ensures (λ list s.
    let p =
    parts_of (plain_fields fs) (plain_fields (take i fs)) (plain_fields (drop (i + 1) fs)) (plain_field x)
    (cut_of fs i x c.loop-field-test.true c.field-item.is) list s in
    let front = ends.each p.0 (all_taken (plain_fields (take i fs)) p.0 p.2) in
    let one = c.in_ok-len_if_fits.ensures.len p.1 (spelled_taken (plain_field x) p.1 p.3) in
    omega (arith, c.in_err-end.ensures, ends.capped, p.4))

-- ---- one field more

pub loop-field-preserved : goal.loop-field-preserved
loop-field-preserved c =
    let fs = c.args.fields.now in
    let i = c.loop-field.field-index in
    let x = c.field-item.result in
    rw (more_of fs i x c.loop-field-test.true c.field-item.is)
    (ends_more TakesBits c.args.len c.loop-field.end c.in_ok-len_if_fits.field-0 c.in_ok-end.end
    (plain_fields (take i fs)) (plain_field x) c.loop-field.invariant c.in_ok-len_if_fits.ensures
    (omega (arith, c.in_ok-end.ensures)))

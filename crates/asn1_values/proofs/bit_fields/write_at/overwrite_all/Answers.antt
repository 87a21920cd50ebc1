use Rattle.std.proofs.Common.{◌+◌, ◌*◌, ◌≤◌, length, take, drop, arith}
use Rattle.asn1_bits.specs.Bits.{bits}
use Rattle.asn1_bits.specs.Laws.DigitLaws.{length-bits}
use Rattle.asn1_values.specs.Plain.{plain_fields, plain_field}
use Rattle.asn1_values.proofs.SpellingLemmas.{cut_of, more_of, field_fits}
use Rattle.asn1_values.proofs.OverLemmas.{overwrites_none, overwrites_more, reached_now, begins_within}
use Rattle.asn1_values.proofs.bit_fields.write_at.overwrite_all.Goals as goal

pub loop-field-init : goal.loop-field-init
loop-field-init c = overwrites_none c.args.position (bits c.args.target.now)

pub overwrite-next-requires : goal.overwrite-next-requires
overwrite-next-requires c =
    let fs = c.args.fields.now in
    let i = c.loop-field.field-index in
    let x = c.field-item.result in
    let behind = plain_fields (drop (i + 1) fs) in
    let cut = cut_of fs i x c.loop-field-test.true c.field-item.is in
    record {
      fits =
          field_fits (plain_fields fs) (plain_fields (take i fs)) behind (plain_field x) cut c.requires.list
          c.requires.spelled;
      within =
          reached_now (plain_fields fs) (plain_fields (take i fs)) behind (plain_field x) cut c.args.target.now
          c.loop-field.target c.args.position c.loop-field.next c.requires c.loop-field.invariant;
    }

pub loop-field-preserved : goal.loop-field-preserved
loop-field-preserved c =
    let fs = c.args.fields.now in
    let i = c.loop-field.field-index in
    let x = c.field-item.result in
    let old = bits c.args.target.now in
    let within : c.args.position ≤ length old =
    omega (
      arith,
      length-bits c.args.target.now,
      begins_within (8 * length c.args.target.now) c.args.position
          (plain_fields fs) c.requires,
    ) in
    rw (more_of fs i x c.loop-field-test.true c.field-item.is)
    (overwrites_more (plain_fields (take i fs)) (plain_field x) c.args.position c.loop-field.next
    c.overwrite-next.result old (bits c.loop-field.target) (bits c.overwrite-next.new.target) c.loop-field.invariant
    c.overwrite-next.ensures within)

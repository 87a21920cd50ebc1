use Rattle.std.proofs.Common.{arith, take}
use Rattle.std.proofs.lemmas.Result.{err_from_is_err_and}
use Rattle.std.proofs.lemmas.List.{length-map}
use Rattle.asn1_values.specs.Fields.{IsSpelledBy, AreSpelledBy}
use Rattle.asn1_values.specs.Plain.{plain_fields, plain_field}
use Rattle.asn1_values.proofs.SpellingLemmas.{ends_none, ends_more, more_of, here_of, take_of, names_first}
use Rattle.asn1_values.proofs.bit_fields.write.end_or_misfit.Goals as goal

pub loop-i-init : goal.loop-i-init
loop-i-init c = ends_none IsSpelledBy c.args.len c.ranges.len.fits

pub returns-in_err-len_or_misfit : goal.returns-in_err-len_or_misfit
returns-in_err-len_or_misfit c =
    let p = err_from_is_err_and c.from_residual.result c.from_residual.ensures.1 in
    let inv = c.loop-i.invariant in
    let before : AreSpelledBy (take c.loop-i.i (plain_fields c.args.fields.now)) inv.list = rw take_of inv.joined in
    rw (p.1, p.2) (record {
      ok = tt;
      err =
          names_first (plain_fields c.args.fields.now) inv.list c.loop-i.i (plain_field c.index-fields-i.result)
          c.in_err-len_or_misfit.field-0.0 before
          (omega (arith, length-map c.args.fields.now plain_field, c.loop-i-test.true))
          (here_of c.args.fields.now c.loop-i.i c.index-fields-i.result c.loop-i-test.true c.index-fields-i.is)
          c.in_err-len_or_misfit.ensures.err;
    })

pub loop-i-preserved : goal.loop-i-preserved
loop-i-preserved c =
    rw (more_of c.args.fields.now c.loop-i.i c.index-fields-i.result c.loop-i-test.true c.index-fields-i.is)
    (ends_more IsSpelledBy c.args.len c.loop-i.end c.in_ok-len_or_misfit.field-0 c.sum_of-end.result
    (plain_fields (take c.loop-i.i c.args.fields.now)) (plain_field c.index-fields-i.result) c.loop-i.invariant
    c.in_ok-len_or_misfit.ensures.ok c.sum_of-end.ensures)

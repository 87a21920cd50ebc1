use Rattle.std.proofs.lemmas.Result.{err_from_is_err_and}
use Rattle.asn1_bits.specs.BitReader.{bits_left}
use Rattle.asn1_values.specs.Plain.{plain_shapes}
use Rattle.asn1_values.specs.Walk.{fields_at}
use Rattle.asn1_values.specs.Steps.{past_all}
use Rattle.asn1_values.proofs.WalkLemmas.{examined_more, examined_stop, examined_all, is_ok_from_past}
use Rattle.asn1_values.proofs.bit_fields.skip.skip_all.Goals as goal

pub returns-in_err-skip : goal.returns-in_err-skip
returns-in_err-skip c =
    let p = err_from_is_err_and c.from_residual.result c.from_residual.ensures.1 in
    let stop =
    examined_stop c.args.shapes.now c.loop-i.i c.index-shapes-i.result (bits_left c.loop-i.left)
    c.in_err-skip.field-0.0 (past_all 0 (fields_at (plain_shapes c.args.shapes.now) (bits_left c.args.reader)))
    c.loop-i-test.true c.index-shapes-i.is c.in_err-skip.ensures.err c.loop-i.invariant in
    rw (p.1, p.2) (record { ok = tt; err = stop })

pub loop-i-preserved : goal.loop-i-preserved
loop-i-preserved c =
    examined_more c.args.shapes.now c.loop-i.i c.index-shapes-i.result (bits_left c.loop-i.left)
    (bits_left c.skip.new.reader)
    (past_all 0 (fields_at (plain_shapes c.args.shapes.now) (bits_left c.args.reader))) c.loop-i-test.true
    c.index-shapes-i.is c.in_ok-skip.ensures.ok c.loop-i.invariant

pub returns : goal.returns
returns c =
    let total = past_all 0 (fields_at (plain_shapes c.args.shapes.now) (bits_left c.args.reader)) in
    record {
      ok =
          is_ok_from_past 0 (fields_at (plain_shapes c.args.shapes.now) (bits_left c.args.reader)) (bits_left c.loop-i.left)
          (examined_all c.args.shapes.now c.loop-i.i (bits_left c.loop-i.left) total c.loop-i-test.false c.loop-i.invariant);
      err = tt;
    }

use Rattle.std.proofs.Common.{arith}
use Rattle.asn1_c.proofs.FieldLemmas.{next_read, next_kept}
use Rattle.asn1_c.proofs.fields.asn1v_read_fields.Goals as goal

pub loop-i-preserved : goal.loop-i-preserved
loop-i-preserved c =
    let inv = c.loop-i.invariant in
    let kept = c.loop-i.auto.fields in
    record {
      read =
          next_read c.args.octets.now c.args.alphabets.now c.args.position c.loop-i.at c.loop-i.i c.args.shapes.now
          c.loop-i.fields _ c.in-Ok.field c.loop-i-test.true (omega arith) inv.read c.in-Ok.ensures.read;
      within = c.in-Ok.ensures.end;
      rest = next_kept c.loop-i.fields _ c.loop-i.i _ inv.rest;
      kept = inv.kept;
    }

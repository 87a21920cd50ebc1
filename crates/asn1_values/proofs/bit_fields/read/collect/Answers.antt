use Rattle.std.proofs.Common.{◌≡◌, ◌<◌, Bool, List, [], length, refl, sym, ap, ◌∙◌, arith}
use Rattle.std.proofs.lemmas.List.{length-map, map_push}
use Rattle.std.proofs.lemmas.Result.{err_from_is_err_and}
use Rattle.asn1_bits.specs.BitReader.{view_left, bits_left}
use Rattle.asn1_values.specs.Plain.{plain_field, plain_fields, plain_shape, plain_shapes}
use Rattle.asn1_values.specs.Steps.{past_all}
use Rattle.asn1_values.specs.Walk.{fields_at}
use Rattle.asn1_values.proofs.LiesLemmas.{after, lie_none, lie_more, left_more, after-none, lies_there}
use Rattle.asn1_values.proofs.WalkLemmas.{read_more, read_all, from_front, examined_more, examined_stop}
use Rattle.asn1_values.proofs.bit_fields.read.collect.Goals as goal

pub loop-i-init : goal.loop-i-init
loop-i-init c =
    let v = view_left c.args.reader.now in
    let none = c.reserve_exact.ensures.items ∙ c.new-fields.ensures.items in
    record {
      walk = rw none (from_front (fields_at (plain_shapes c.args.shapes.now) (bits_left c.args.reader.now)));
      refused = refl;
      places = rw none (lie_none v);
      rest = λ front s. let e : front ≡ [] = rw none at s in after-none v ∙ ap (λ (l : List Bool). after v l) (sym e);
      len = omega (arith, c.reserve_exact.ensures.len, c.new-fields.ensures);
      room = omega (arith, c.in_ok-reserve_exact.ensures.ok);
    }

pub loop-i-preserved : goal.loop-i-preserved
loop-i-preserved c =
    let inv = c.loop-i.invariant in
    let fs = c.loop-i.fields.items in
    let one = c.in_ok-append_next.ensures.read in
    let v = view_left c.args.reader.now in
    let now = view_left c.loop-i.reader in
    let left = bits_left c.append_next.new.reader in
    record {
      walk =
          rw (one.appended, map_push)
          (read_more c.args.shapes.now c.loop-i.i c.index-shapes-i.result (plain_fields fs)
          (bits_left c.loop-i.reader) (plain_field one.field) left
          (fields_at (plain_shapes c.args.shapes.now) (bits_left c.args.reader.now)) c.loop-i-test.true
          c.index-shapes-i.is one.read inv.walk);
      refused =
          examined_more c.args.shapes.now c.loop-i.i c.index-shapes-i.result (bits_left c.loop-i.reader) left
          (past_all 0 (fields_at (plain_shapes c.args.shapes.now) (bits_left c.args.reader.now))) c.loop-i-test.true
          c.index-shapes-i.is (rw one.read refl) inv.refused;
      places =
          rw one.appended (lie_more v fs one.field inv.places
          (λ front s. lies_there v now front one.field (inv.rest front s) one.place));
      rest =
          λ front s. left_more v now (view_left c.append_next.new.reader) fs one.field inv.rest
          one.rest front (rw one.appended at s);
      len = omega (arith, c.in_ok-append_next.ensures.len, inv.len);
      room = omega (arith, c.in_ok-append_next.ensures.capacity, inv.room);
    }

pub returns-in_err-append_next : goal.returns-in_err-append_next
returns-in_err-append_next c =
    let from = c.from_residual-in_err-append_next in
    let p = err_from_is_err_and from.result from.ensures.1 in
    let some : 0 < length c.args.shapes.now = omega (arith, c.loop-i-test.true) in
    rw (p.1, p.2) (record {
      fields = tt;
      places = tt;
      rest = tt;
      err = λ ne.
          examined_stop c.args.shapes.now c.loop-i.i c.index-shapes-i.result (bits_left c.loop-i.reader)
          c.in_err-append_next.field-0.0
          (past_all 0 (fields_at (plain_shapes c.args.shapes.now) (bits_left c.args.reader.now))) c.loop-i-test.true
          c.index-shapes-i.is (c.in_err-append_next.ensures.err ne) c.loop-i.invariant.refused;
      no_shapes = λ none. absurd (omega (arith, some, length-map c.args.shapes.now plain_shape, ap length none));
    })

pub returns : goal.returns
returns c =
    let inv = c.loop-i.invariant in
    record {
      fields =
          read_all c.args.shapes.now c.loop-i.i (plain_fields c.loop-i.fields.items)
          (bits_left c.loop-i.reader) (fields_at (plain_shapes c.args.shapes.now) (bits_left c.args.reader.now))
          c.loop-i-test.false inv.walk;
      places = inv.places;
      rest = inv.rest;
      err = tt;
      no_shapes = λ none. refl;
    }

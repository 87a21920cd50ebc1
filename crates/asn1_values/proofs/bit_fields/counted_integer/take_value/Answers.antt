use Rattle.std.proofs.Common.{IfOk, ◌+◌, ◌*◌, ap, refl, ◌∙◌, arith}
use Rattle.std.proofs.lemmas.Result.{IfOk-weaker}
use Rattle.asn1_bits.specs.BitReader.{view_left, bits_left}
use Rattle.asn1_bits.specs.View.{View}
use Rattle.asn1_values.specs.Steps.{Takes, TakesCounted}
use Rattle.asn1_values.proofs.CountedIntegerKind.{examined_counted, part_behind}
use Rattle.asn1_values.proofs.bit_fields.counted_integer.take_value.Goals as goal
use Rattle.asn1_values.proofs.bit_fields.counted_integer.take_value.Goals.{After-take_value}

-- the octets after the first were taken
taken : (c : After-take_value) → IfOk c.take_value.result (TakesCounted c.args.reader.now c.take_value.new.reader)
taken c =
    let old = view_left c.args.reader.now in
    let mid = c.take_count.new.reader in
    let first = c.in_ok-octets.ensures.taken in
    let octets = c.from.result in
    IfOk-weaker c.take_value.result (Takes (8 * octets) mid c.take_value.new.reader)
    (TakesCounted c.args.reader.now c.take_value.new.reader)
    (λ front t. record {
      octets = octets;
      counted = c.from.ensures ∙ first.counted;
      len = ap (λ (v : View). v.len) t.view;
      list = rw first.rest at t.list;
      moved = t.moved ∙ part_behind old (view_left mid) (8 * octets) (8 + 8 * octets) first.moved refl;
      rest = rw first.rest at t.rest;
    })
    c.take_value.ensures.taken

pub returns : goal.returns
returns c =
    let first = c.in_ok-octets.ensures.taken in
    record {
      examined =
          examined_counted c.args.field c.from.result (bits_left c.args.reader.now) c.take_value.new.reader c.take_value.result
          first.enough (c.from.ensures ∙ first.counted)
          (omega (arith, c.from.ensures, first.is), omega (arith, c.from.ensures, first.is))
          (rw first.rest at c.take_value.ensures.examined);
      taken = taken c;
    }

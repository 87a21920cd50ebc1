use Rattle.std.proofs.Common.{◌∙◌, sym, inl}
use Rattle.asn1_values.specs.Fields as plain
use Rattle.asn1_c.proofs.PlanLemmas.{integer_planned, integer_miscounted, read_named, is_far}
use Rattle.asn1_c.proofs.plans.plan_integer.Goals as goal

pub returns-then-octets-count-clause-wrong : goal.returns-then-octets-count-clause-wrong
returns-then-octets-count-clause-wrong c =
    let word = c.shortest_word-number.ensures in
    inl (
      c.if-field-le128.true,
      integer_miscounted c.args.source.now c.args.field.now c.number.result c.shortest_word-number.result.0
          c.shortest_word-number.result.1 c.number.ensures word.word word.count c.with.result c.args.count
          c.with.ensures.code c.with.ensures.number c.if-octets-count.true,
    )

pub returns-then-field-le128-clause-named : goal.returns-then-field-le128-clause-named
returns-then-field-le128-clause-named c =
    let word = c.shortest_word-number.ensures in
    let made = c.of_number.ensures in
    integer_planned c.args.source.now c.args.field.now c.number.result c.shortest_word-number.result.0
    c.shortest_word-number.result.1 c.number.ensures word.word word.count c.of_number.result c.args.count made.no_octet
    made.no_bits.1 made.number.0 made.number.1 c.if-octets-count.false c.if-field-le128.true

pub returns-in-Ok-read_integer-clause-named : goal.returns-in-Ok-read_integer-clause-named
returns-in-Ok-read_integer-clause-named c =
    let b = c.in-Ok.ensures.bits in
    let l = c.in-Ok.ensures.lies in
    read_named c.args.source.now c.args.field.now c.in-Ok.plan b.2 b.3 b.0 b.1 l.1 (plain.OfInteger c.args.count)
    c.in-Ok-read_integer.field-0 c.in-Ok-read_integer.ensures.read
    (c.in-Ok-read_integer.ensures.place.1 ∙ sym l.0 ∙ b.1) (is_far 128 c.args.field.now.length c.if-field-le128.false)

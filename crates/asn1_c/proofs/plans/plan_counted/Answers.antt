use Rattle.std.proofs.Common.{refl, arith}
use Rattle.asn1_values.specs.Fields as plain
use Rattle.asn1_c.proofs.PlanLemmas.{counted_planned, read_named, is_far}
use Rattle.asn1_c.proofs.plans.plan_counted.Goals as goal

pub returns-then-field-le136-clause-named : goal.returns-then-field-le136-clause-named
returns-then-field-le136-clause-named c =
    let word = c.shortest_word-number.ensures in
    let made = c.of_number.ensures in
    counted_planned c.args.source.now c.args.field.now c.number.result c.shortest_word-number.result.0
    c.shortest_word-number.result.1 c.number.ensures word.word word.count _ refl refl made.no_bits.1 made.number.0
    made.number.1 word.few c.if-field-le136.true

pub returns-else-found-field-clause-named : goal.returns-else-found-field-clause-named
returns-else-found-field-clause-named c =
    let made = c.of_bits.ensures in
    let within = c.if-field-source.false in
    read_named c.args.source.now c.args.field.now c.of_bits.result made.no_octet made.no_number made.bits.0 made.bits.1
    (omega arith) plain.OfCountedInteger c.in-Ok.found c.in-Ok.ensures.read c.if-found-field.false
    (is_far 136 c.args.field.now.length c.if-field-le136.false)

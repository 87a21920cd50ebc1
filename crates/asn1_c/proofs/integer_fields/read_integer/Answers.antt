use Rattle.std.proofs.Common.{◌∙◌, refl, arith}
use Rattle.asn1_c.proofs.IntegerFieldLemmas.{integer_read, integer_wrong, integer_empty, integer_short}
use Rattle.asn1_c.proofs.integer_fields.read_integer.Goals as goal

pub returns-then-count-eq0-clause-refused : goal.returns-then-count-eq0-clause-refused
returns-then-count-eq0-clause-refused c =
    integer_empty _ c.args.count c.with.result c.if-count-eq0.true c.with.ensures.code c.with.ensures.number

pub returns-then-not-are_shortest-clause-refused : goal.returns-then-not-are_shortest-clause-refused
returns-then-not-are_shortest-clause-refused c =
    let ne = c.if-count-eq0.false in
    integer_wrong c.args.octets.now c.args.at c.args.count (omega arith) c.in-Ok.ensures.enough
    c.with-then-not-are_shortest.result c.with-then-not-are_shortest.ensures.code
    c.with-then-not-are_shortest.ensures.number
    (c.are_shortest.ensures.no c.if-not-are_shortest.true)

pub returns-else-not-are_shortest-clause-read : goal.returns-else-not-are_shortest-clause-read
returns-else-not-are_shortest-clause-read c =
    let ne = c.if-count-eq0.false in
    integer_read c.args.octets.now c.args.at c.args.count (omega arith) c.in-Ok.ensures.enough c.with_value.result
    (c.with_value.ensures.place.0 ∙ c.in-Ok.ensures.bits.0) (c.with_value.ensures.place.1 ∙ c.in-Ok.ensures.bits.1)
    (c.if-not-are_shortest.ensures.yes refl) c.with_value.ensures.short c.with_value.ensures.long

pub returns-in-Err-clause-refused : goal.returns-in-Err-clause-refused
returns-in-Err-clause-refused c =
    integer_short c.args.octets.now c.args.at c.args.count c.in-Err.refusal
    (let ne = c.if-count-eq0.false in omega arith) c.requires.within
    c.in-Err.ensures.code.0 c.in-Err.ensures.short.0 c.in-Err.ensures.short.1

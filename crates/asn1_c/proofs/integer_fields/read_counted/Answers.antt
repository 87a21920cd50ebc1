use Rattle.std.proofs.Common.{◌∙◌, refl, arith}
use Rattle.asn1_c.proofs.IntegerFieldLemmas.{counted_read, counted_length, counted_wrong, counted_cut, counted_short}
use Rattle.asn1_c.proofs.integer_fields.read_counted.Goals as goal

pub returns-in-Err-clause-refused : goal.returns-in-Err-clause-refused
returns-in-Err-clause-refused c =
    counted_short c.args.octets.now c.args.at c.in-Err.refusal c.requires.within c.in-Err.ensures.code.0
    c.in-Err.ensures.short.0 c.in-Err.ensures.short.1

pub returns-then-octet-eq0-clause-refused : goal.returns-then-octet-eq0-clause-refused
returns-then-octet-eq0-clause-refused c =
    let either = c.then-octet-eq0.either in
    counted_length c.args.octets.now c.args.at c.octet_at-octet.result c.requires.within c.octet_at-octet.ensures
    c.with.result c.in_default.ensures.enough c.with.ensures.code (c.with.ensures.number ∙ c.from.ensures)
    (λ counts. let low = counts.0 in let high = counts.1 in omega arith)

pub returns-then-not-are_shortest-clause-refused : goal.returns-then-not-are_shortest-clause-refused
returns-then-not-are_shortest-clause-refused c =
    let low = c.if-octet-eq0.false in
    let high = c.if-octet-gt127.false in
    let same = c.from-count.ensures in
    counted_wrong c.args.octets.now c.args.at c.from-count.result c.requires.within (same ∙ c.octet_at-octet.ensures)
    c.with-then-not-are_shortest.result c.in-Ok.ensures.enough c.with-then-not-are_shortest.ensures.code
    c.with-then-not-are_shortest.ensures.number (omega arith, omega arith)
    (c.are_shortest.ensures.no c.if-not-are_shortest.true)

pub returns-else-not-are_shortest-clause-read : goal.returns-else-not-are_shortest-clause-read
returns-else-not-are_shortest-clause-read c =
    let low = c.if-octet-eq0.false in
    let high = c.if-octet-gt127.false in
    let same = c.from-count.ensures in
    counted_read c.args.octets.now c.args.at c.from-count.result c.requires.within (same ∙ c.octet_at-octet.ensures)
    c.with_value.result (omega arith, omega arith) c.in-Ok.ensures.enough (c.with_value.ensures.place.0 ∙ c.in-Ok.ensures.bits.0)
    (c.with_value.ensures.place.1 ∙ c.in-Ok.ensures.bits.1) (c.if-not-are_shortest.ensures.yes refl) c.with_value.ensures.short
    c.with_value.ensures.long

pub returns-in-Err-field_at-clause-refused : goal.returns-in-Err-field_at-clause-refused
returns-in-Err-field_at-clause-refused c =
    let low = c.if-octet-eq0.false in
    let high = c.if-octet-gt127.false in
    let same = c.from-count.ensures in
    counted_cut c.args.octets.now c.args.at c.from-count.result c.requires.within (same ∙ c.octet_at-octet.ensures)
    c.in-Err-field_at.refusal c.in_default.ensures.enough c.in-Err-field_at.ensures.short.0 c.in-Err-field_at.ensures.code.0
    c.in-Err-field_at.ensures.short.1 (omega arith, omega arith)

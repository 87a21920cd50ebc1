use Rattle.std.proofs.Common.{arith}
use Rattle.asn1_c.proofs.IntegerFieldLemmas.{shortest_one, shortest_more, not_shortest, true_not, not_false}
use Rattle.asn1_c.proofs.integer_fields.are_shortest.Goals as goal

pub returns-then-count-eq1-clause-yes : goal.returns-then-count-eq1-clause-yes
returns-then-count-eq1-clause-yes c = λ _.
    shortest_one c.args.octets.now c.args.at c.args.count c.requires.some c.requires.within c.if-count-eq1.true

pub returns-clause-yes : goal.returns-clause-yes
returns-clause-yes c = λ t.
    shortest_more c.args.octets.now c.args.at c.args.count c.requires.some c.requires.within c.octet_at.result
    c.octet_at-2.result c.octet_at.ensures c.octet_at-2.ensures
    (λ r. true_not c.repeats_sign.result t (c.repeats_sign.ensures.1 r))

pub returns-clause-no : goal.returns-clause-no
returns-clause-no c = λ e.
    not_shortest c.args.octets.now c.args.at c.args.count c.requires.some c.requires.within c.octet_at.result
    c.octet_at-2.result (let some = c.requires.some in let ne = c.if-count-eq1.false in omega arith)
    c.octet_at.ensures c.octet_at-2.ensures (c.repeats_sign.ensures.0 (not_false c.repeats_sign.result e))

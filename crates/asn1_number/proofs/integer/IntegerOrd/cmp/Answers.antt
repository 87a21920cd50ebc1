use Rattle.std.proofs.Common.{rules, ◌≡◌, sym, ◌∙◌}
use Rattle.std.specs.Ordering.{int_cmp}
use Rattle.asn1_number.specs.Laws.OctetOrderLaws.{shortest_order}
use Rattle.asn1_number.proofs.integer.IntegerOrd.cmp.Goals as goal

pub returns-clause-octets : goal.returns-clause-octets
returns-clause-octets c = λ a b s t.
    let e : c.cmp.result ≡ int_cmp c.args.self.now c.args.other.now = search rules in
    e ∙ sym (shortest_order c.args.self.now c.args.other.now a b s t)

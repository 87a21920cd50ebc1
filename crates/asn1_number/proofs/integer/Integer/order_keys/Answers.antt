use Rattle.std.proofs.Common.{rules, sym, ap, subst, ◌∙◌}
use Rattle.asn1_number.specs.Octets.{IsShortest}
use Rattle.asn1_number.specs.Order.{octets_cmp}
use Rattle.asn1_number.specs.Forms.{number_in, IsOneForm}
use Rattle.asn1_number.specs.Laws.OctetOrderLaws.{shortest_order}
use Rattle.asn1_number.proofs.integer.Integer.order_keys.Goals as goal

pub returns-in-Shortest-Shortest : goal.returns-in-Shortest-Shortest
returns-in-Shortest-Shortest c =
    let a : IsShortest c.args.self.now c.in-Shortest-Shortest.octets.items =
    subst (λ z. IsShortest z c.in-Shortest-Shortest.octets.items)
    (ap number_in (sym c.in-Shortest-Shortest.is-0) ∙ c.self.view_is)
    (subst IsOneForm c.in-Shortest-Shortest.is-0 c.self.invariant).0 in
    let b : IsShortest c.args.other.now c.in-Shortest-Shortest.others.items =
    subst (λ z. IsShortest z c.in-Shortest-Shortest.others.items)
    (ap number_in (sym c.in-Shortest-Shortest.is-1) ∙ c.other.view_is)
    (subst IsOneForm c.in-Shortest-Shortest.is-1 c.other.invariant).0 in
    c.octets_keys.ensures
    ∙ (ap (λ o. octets_cmp o c.as_slice-in-Shortest-Shortest.result.now) c.as_slice.ensures.value
    ∙ (ap (octets_cmp c.in-Shortest-Shortest.octets.items) c.as_slice-in-Shortest-Shortest.ensures.value
    ∙ shortest_order c.args.self.now c.args.other.now _ _ a b))

pub returns-in-Inline-Inline : goal.returns-in-Inline-Inline
returns-in-Inline-Inline c = search rules

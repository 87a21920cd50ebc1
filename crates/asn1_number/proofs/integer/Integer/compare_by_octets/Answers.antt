use Rattle.std.proofs.Common.{ap, ◌∙◌}
use Rattle.asn1_number.specs.Order.{octets_cmp}
use Rattle.asn1_number.specs.Laws.OctetOrderLaws.{shortest_order}
use Rattle.asn1_number.proofs.integer.Integer.compare_by_octets.Goals as goal

pub returns : goal.returns
returns c =
    c.compare_octets.ensures ∙ (ap (λ o. octets_cmp o c.as_ref-2.result.now) c.as_ref.ensures
    ∙ (ap (octets_cmp c.signed_octets-octets.result) c.as_ref-2.ensures
    ∙ shortest_order c.args.self.now c.args.other.now _ _ c.signed_octets-octets.ensures
    c.signed_octets-others.ensures))

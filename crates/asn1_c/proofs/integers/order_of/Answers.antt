use Rattle.std.proofs.Common.{◌∙◌}
use Rattle.asn1_number.specs.Laws.OctetOrderLaws.{shortest_order}
use Rattle.asn1_c.proofs.integers.order_of.Goals as goal

pub returns : goal.returns
returns c =
    c.order_of_shortest.ensures
    ∙ shortest_order _ _ _ _ (c.without_redundant_sign_octets.ensures.shortest c.requires.a_some)
    (c.without_redundant_sign_octets-2.ensures.shortest c.requires.b_some)

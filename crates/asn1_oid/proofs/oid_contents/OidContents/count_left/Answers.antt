use Rattle.std.proofs.Common.{length, ap, ◌∙◌}
use Rattle.asn1_oid.proofs.WritingLemmas.{length-both_left}
use Rattle.asn1_oid.proofs.oid_contents.OidContents.count_left.Goals as goal

pub returns : goal.returns
returns c =
    let inside = c.self.inside in
    length-both_left inside.octets inside.left c.octets_of_arcs.result inside.arcs.now inside.back inside.back_left
    c.octets_of_arcs.ensures.len
    ∙ ap length c.self.view_is

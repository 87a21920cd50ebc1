use Rattle.std.proofs.Common.{sym, ap, subst, ◌∙◌, to_z-of_z}
use Rattle.asn1_number.specs.Octets.{IsShortest}
use Rattle.asn1_number.specs.Shortest.{shortest_octets}
use Rattle.asn1_number.specs.Laws.ShortestLaws.{shortest_octets_are}
use Rattle.asn1_number.proofs.values.shortest_of.Goals as goal

pub returns : goal.returns
returns c =
    subst (IsShortest c.args.number)
    (sym (c.end_of.ensures ∙ (c.shortest_in_words-start.ensures.octets ∙ ap shortest_octets (to_z-of_z c.ranges.number))))
    (shortest_octets_are c.args.number)

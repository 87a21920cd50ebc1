use Rattle.asn1_oid.proofs.ParseLemmas.{Reads, octets_left}
use Rattle.asn1_oid.proofs.parse.parse_arcs.Given as goal

abbrev pub invariant-loop-left : goal.invariant-loop-left
invariant-loop-left l = Reads l.text l.left l.count l.front l.room l.fn.room

abbrev pub decreases-loop-left : goal.decreases-loop-left
decreases-loop-left l = octets_left l.left

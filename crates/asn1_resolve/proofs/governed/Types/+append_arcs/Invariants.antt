use Rattle.asn1_resolve.proofs.governed.Types.+append_arcs.Given as goal

abbrev pub decreases-append_arcs : goal.decreases-append_arcs
decreases-append_arcs l = l.depth

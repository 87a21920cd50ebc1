use Rattle.asn1_resolve.proofs.open_types.Search.+search.Given as goal

abbrev pub decreases-component : goal.decreases-component
decreases-component l = l.depth

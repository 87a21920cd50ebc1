use Rattle.std.proofs.Common.{◌-◌}
use Rattle.asn1_oid.proofs.StepLemmas.{Walks}
use Rattle.asn1_oid.proofs.contents.examine.Given as goal

abbrev pub invariant-loop-at : goal.invariant-loop-at
invariant-loop-at g l = Walks (g.S.OctetSource.list l.source) l.at l.fit

abbrev pub decreases-loop-at : goal.decreases-loop-at
decreases-loop-at g l = l.count - l.at

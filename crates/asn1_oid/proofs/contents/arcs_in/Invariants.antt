use Rattle.std.proofs.Common.{◌+◌, ◌-◌, ◌≤◌}
use Rattle.asn1_oid.proofs.StepLemmas.{Gathered}
use Rattle.asn1_oid.proofs.contents.arcs_in.Given as goal

abbrev pub invariant-loop-at : goal.invariant-loop-at
invariant-loop-at g l = record {
  gathered : Gathered (g.S.OctetSource.list l.source) l.at l.arcs.items;
  few : l.arcs.len ≤ l.at + 1;
  room : l.count + 1 ≤ l.arcs.cap;
}

abbrev pub decreases-loop-at : goal.decreases-loop-at
decreases-loop-at g l = l.count - l.at

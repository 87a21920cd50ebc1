use Rattle.std.proofs.Common.{◌≡◌, ◌+◌, ◌-◌, ◌*◌, ◌≤◌, length, drop}
use Rattle.asn1_oid.specs.Arcs.{with_stops}
use Rattle.asn1_oid.proofs.dotted.put_group.Given as goal

abbrev pub invariant-loop-behind : goal.invariant-loop-behind
invariant-loop-behind l = record {
  text : drop l.start l.room ≡ with_stops (drop (length l.arcs - l.behind) l.arcs);
  within : l.start + l.behind ≤ 88;
  roomy : 88 ≤ l.start + 11 * l.behind;
}

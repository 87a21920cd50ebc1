use Rattle.std.proofs.Common.{◌≡◌, ◌-◌, false, drop, length}
use Rattle.asn1_x691_fields.specs.Octets.{are_series}
use Rattle.asn1_x690_leaves.proofs.identifiers.are_series.Given as goal

abbrev pub invariant-loop-index : goal.invariant-loop-index
invariant-loop-index l = are_series false l.octets ≡ are_series l.begun (drop l.index l.octets)

abbrev pub decreases-loop-index : goal.decreases-loop-index
decreases-loop-index l = length l.octets - l.index

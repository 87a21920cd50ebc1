use Rattle.std.proofs.Common.{◌-◌, drop, length}
use Rattle.asn1_x690.specs.Leaves.{AreIn}
use Rattle.asn1_x690_leaves.proofs.texts.are_octets_in.Given as goal

abbrev pub invariant-loop-index : goal.invariant-loop-index
invariant-loop-index l = record {
  yes : AreIn l.ranges (drop l.index l.octets) → AreIn l.ranges l.octets;
  no : AreIn l.ranges l.octets → AreIn l.ranges (drop l.index l.octets);
}

abbrev pub decreases-loop-index : goal.decreases-loop-index
decreases-loop-index l = length l.octets - l.index

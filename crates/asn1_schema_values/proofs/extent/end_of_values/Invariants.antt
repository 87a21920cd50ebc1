use Rattle.std.proofs.Common.{◌≡◌, ◌≤◌, ◌+◌, ◌-◌, length, drop}
use Rattle.asn1_schema_values.proofs.ExtentLemmas.{rest_after}
use Rattle.asn1_schema_values.proofs.extent.end_of_values.Given as goal

abbrev pub invariant-loop-pending : goal.invariant-loop-pending
invariant-loop-pending l = record {
  within : l.at + l.left ≤ length l.parts;
  same : rest_after l.pending (drop (length l.parts - l.left) l.parts) ≡ rest_after l.count (drop l.at l.parts);
}

abbrev pub decreases-loop-pending : goal.decreases-loop-pending
decreases-loop-pending l = l.left

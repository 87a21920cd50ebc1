use Rattle.std.proofs.Common.{◌≤◌, ◌-◌, length}
use Rattle.asn1_schema_values.specs.Extents.{HasValues}
use Rattle.asn1_schema_values.proofs.extent.values_from.Given as goal

abbrev pub invariant-loop-at : goal.invariant-loop-at
invariant-loop-at l = record {
  before : HasValues l.parts l.from l.count l.at;
  few : l.count ≤ l.at;
  within : l.at ≤ length l.parts;
}

abbrev pub decreases-loop-at : goal.decreases-loop-at
decreases-loop-at l = length l.parts - l.at

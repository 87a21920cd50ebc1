use Rattle.std.proofs.Common.{◌≡◌, ◌+◌, ◌-◌, ◌<◌, ◌≤◌, ◌^◌, ◌⊎◌}
use Rattle.asn1_schema.specs.CharactersOfParts.{characters_below, end_of}
use Rattle.asn1_x691_fields.proofs.alphabets.first_past.Given as goal

abbrev pub invariant-loop-low : goal.invariant-loop-low
invariant-loop-low l = record {
  ordered : l.low ≤ l.high;
  few : l.high ≤ 2 ^ 32;
  below : characters_below l.ranges l.low ≤ l.index;
  past : (l.high ≡ end_of l.ranges)
      ⊎ ((l.index < characters_below l.ranges (l.high + 1)) × (characters_below l.ranges (l.high + 1) < 2 ^ 128));
}

abbrev pub decreases-loop-low : goal.decreases-loop-low
decreases-loop-low l = l.high - l.low

use Rattle.std.proofs.Common.{◌≡◌, ◌+◌, ◌*◌, ◌^◌, ◌≤◌, drop}
use Rattle.asn1_schema.specs.CharactersOfParts.{characters_below}
use Rattle.asn1_x691_fields.proofs.alphabets.count_below.Given as goal

abbrev pub invariant-loop-range : goal.invariant-loop-range
invariant-loop-range l = record {
  sum : l.count + characters_below (drop l.range-index l.ranges) l.number ≡ characters_below l.ranges l.number;
  few : l.count ≤ l.range-index * 2 ^ 32;
}

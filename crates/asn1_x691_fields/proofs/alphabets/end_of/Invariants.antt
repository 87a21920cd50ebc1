use Rattle.std.proofs.Common.{◌≡◌, ◌^◌, ◌≤◌, max, drop}
use Rattle.asn1_schema.specs.CharactersOfParts.{end_of}
use Rattle.asn1_x691_fields.proofs.alphabets.end_of.Given as goal

abbrev pub invariant-loop-range : goal.invariant-loop-range
invariant-loop-range l = record {
  greatest : max l.end (end_of (drop l.range-index l.ranges)) ≡ end_of l.ranges;
  few : l.end ≤ 2 ^ 32;
}

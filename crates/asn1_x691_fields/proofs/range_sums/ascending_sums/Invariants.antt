use Rattle.std.proofs.Common.{◌≡◌, ℕ, ◌+◌, ◌*◌, ◌^◌, ◌<◌, ◌≤◌, ◌⊎◌, max, drop}
use Rattle.asn1_schema.specs.CharactersOfParts.{end_of}
use Rattle.asn1_x691.specs.Alphabets.{IsIn, count_of}
use Rattle.asn1_x691_fields.specs.Characters.{AreAscending}
use Rattle.asn1_x691_fields.proofs.range_sums.ascending_sums.Given as goal

abbrev pub invariant-loop-range : goal.invariant-loop-range
invariant-loop-range l = record {
  sum : l.count + count_of (drop l.range-index l.ranges) ≡ count_of l.ranges;
  few : l.count ≤ l.range-index * 2 ^ 32;
  small : (c : ℕ) → IsIn l.ranges c → (c < 2 ^ 32) ⊎ IsIn (drop l.range-index l.ranges) c;
  greatest : max l.end (end_of (drop l.range-index l.ranges)) ≡ end_of l.ranges;
  low : l.end ≤ 2 ^ 32;
  ascending : AreAscending l.end (drop l.range-index l.ranges) → AreAscending 0 l.ranges;
}

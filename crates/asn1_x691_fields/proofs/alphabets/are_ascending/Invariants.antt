use Rattle.std.proofs.Common.{drop}
use Rattle.asn1_x691_fields.specs.Characters.{AreAscending}
use Rattle.asn1_x691_fields.proofs.alphabets.are_ascending.Given as goal

abbrev pub invariant-loop-range : goal.invariant-loop-range
invariant-loop-range l = AreAscending l.end (drop l.range-index l.ranges) → AreAscending 0 l.ranges

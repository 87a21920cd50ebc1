use Rattle.std.proofs.Common.{drop}
use Rattle.asn1_x691.specs.Alphabets.{IsIn}
use Rattle.asn1_x691_fields.proofs.alphabets.is_in.Given as goal

abbrev pub invariant-loop-range : goal.invariant-loop-range
invariant-loop-range l = record {
  others : IsIn (drop l.range-index l.ranges) l.character → IsIn l.ranges l.character;
  not_before : IsIn l.ranges l.character → IsIn (drop l.range-index l.ranges) l.character;
}

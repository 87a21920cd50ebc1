use Rattle.std.proofs.Common.{drop}
use Rattle.asn1_schema_values.specs.Tables.{IsWithin}
use Rattle.asn1_schema_values.proofs.alphabets.is_within.Given as goal

abbrev pub invariant-loop-range : goal.invariant-loop-range
invariant-loop-range l = record {
  onward : IsWithin (drop l.range-index l.ranges) l.whole → IsWithin l.ranges l.whole;
  back : IsWithin l.ranges l.whole → IsWithin (drop l.range-index l.ranges) l.whole;
}

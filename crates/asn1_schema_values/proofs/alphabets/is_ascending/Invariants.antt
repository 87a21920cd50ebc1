use Rattle.std.proofs.Common.{drop}
use Rattle.asn1_schema_values.specs.Tables.{IsAscending}
use Rattle.asn1_schema_values.proofs.alphabets.is_ascending.Given as goal

abbrev pub invariant-loop-range : goal.invariant-loop-range
invariant-loop-range l = record {
  onward : IsAscending l.from (drop l.range-index l.ranges) → IsAscending 0 l.ranges;
  back : IsAscending 0 l.ranges → IsAscending l.from (drop l.range-index l.ranges);
}

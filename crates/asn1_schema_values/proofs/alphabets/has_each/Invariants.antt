use Rattle.std.proofs.Common.{◌≡◌, drop}
use Rattle.asn1_schema_values.proofs.RangeLemmas.{past_all}
use Rattle.asn1_schema_values.proofs.alphabets.has_each.Given as goal

abbrev pub invariant-loop-range : goal.invariant-loop-range
invariant-loop-range l = past_all (drop l.range-index l.ranges) l.next ≡ past_all l.ranges l.of.first

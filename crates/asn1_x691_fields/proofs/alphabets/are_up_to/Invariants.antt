use Rattle.std.proofs.Common.{◌≡◌, drop}
use Rattle.asn1_x691.specs.Alphabets.{are_within}
use Rattle.asn1_x691_fields.proofs.alphabets.are_up_to.Given as goal

abbrev pub invariant-loop-range : goal.invariant-loop-range
invariant-loop-range l = are_within l.ranges l.most ≡ are_within (drop l.range-index l.ranges) l.most

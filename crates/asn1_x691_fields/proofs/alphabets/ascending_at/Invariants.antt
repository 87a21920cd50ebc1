use Rattle.std.proofs.Common.{drop}
use Rattle.asn1_x691_fields.proofs.AlphabetLemmas.{LeadsOn}
use Rattle.asn1_x691_fields.proofs.alphabets.ascending_at.Given as goal

abbrev pub invariant-loop-range : goal.invariant-loop-range
invariant-loop-range l = LeadsOn l.ranges (drop l.range-index l.ranges) l.left l.index

use Rattle.std.proofs.Common.{◌-◌, ◌≤◌}
use Rattle.asn1_bits.specs.Bits.{digits}
use Rattle.asn1_x691_writers.specs.Written.{IsGrown}
use Rattle.asn1_x691_writers.proofs.reserves.put_zeros.Given as goal

abbrev pub invariant-loop-left : goal.invariant-loop-left
invariant-loop-left l = record {
  few : l.left ≤ l.count;
  grown : IsGrown l.initial.octets l.at l.octets l.next (digits 0 (l.count - l.left));
}

abbrev pub decreases-loop-left : goal.decreases-loop-left
decreases-loop-left l = l.left

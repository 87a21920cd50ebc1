use Rattle.std.proofs.Common.{◌≡◌, ◌+◌, ◌-◌, ◌≤◌}
use Rattle.asn1_bits.specs.Bits.{bits}
use Rattle.asn1_schema.specs.PiecesOfParts.{bits_at}
use Rattle.asn1_x691_writers.specs.Joined.{bits_in}
use Rattle.asn1_x691_writers.specs.Written.{IsGrown}
use Rattle.asn1_x691_writers.proofs.joined.put_joined.Given as goal

abbrev pub invariant-loop-left : goal.invariant-loop-left
invariant-loop-left l = record {
  few : l.left ≤ l.count;
  first : l.first ≡ l.from + (l.count - l.left);
  grown : IsGrown l.initial.octets l.at l.octets l.next (bits_at (bits_in (bits l.source) l.joined) l.from (l.count - l.left));
}

abbrev pub decreases-loop-left : goal.decreases-loop-left
decreases-loop-left l = l.left

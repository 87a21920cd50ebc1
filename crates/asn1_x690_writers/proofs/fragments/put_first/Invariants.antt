use Rattle.std.proofs.Common.{◌≡◌, ◌+◌, ◌-◌, ◌*◌, ◌≤◌, length, take, drop}
use Rattle.asn1_bits.specs.Bits.{bits}
use Rattle.asn1_x690_writers.specs.Fragments.{bits_left}
use Rattle.asn1_x691_writers.specs.Written.{IsGrown}
use Rattle.asn1_x690_writers.proofs.fragments.put_first.Given as goal

abbrev pub invariant-loop-left : goal.invariant-loop-left
invariant-loop-left l = record {
  few : l.left ≤ l.count;
  inside : l.rest.head.at + l.rest.head.count ≤ 8 * length l.source;
  same : bits_left l.unit (bits l.source) l.rest ≡ drop (l.count - l.left) (bits_left l.unit (bits l.source) l.fn.all);
  grown : IsGrown l.initial.octets l.at l.octets l.end (take (l.count - l.left) (bits_left l.unit (bits l.source) l.fn.all));
}

abbrev pub decreases-loop-left : goal.decreases-loop-left
decreases-loop-left l = l.left

use Rattle.std.proofs.Common.{◌≡◌, ◌+◌, ◌-◌, ◌*◌, ◌%◌, ◌<◌, ◌≤◌, true, length}
use Rattle.asn1_bits.specs.Bits.{bits}
use Rattle.asn1_x691_fields.specs.Outcomes.{IsWithin, IsOnward}
use Rattle.asn1_x691_fields.specs.FragmentSteps.{AreUnderway}
use Rattle.asn1_x691_fields.specs.Fragments.{after_fragments}
use Rattle.asn1_x691_fields.proofs.fragments.next_in_fragments.Given as goal

abbrev pub invariant-loop-count : goal.invariant-loop-count
invariant-loop-count l = record {
  within : IsWithin (bits l.octets) l.state;
  onward : IsOnward (bits l.octets) l.fn.state l.state;
  most : l.count ≤ 65536;
  far : 65536 * l.whole ≤ l.state.at;
  place : 65536 ≤ l.count → l.state.at ≡ after_fragments l.unit l.at l.whole;
  inside : after_fragments l.unit l.at l.whole ≤ length (bits l.octets);
  octet : l.is_aligned ≡ true → l.state.at % 8 ≡ 0;
  underway : AreUnderway l.unit l.is_aligned l.node (bits l.octets) l.fn.state l.state l.at l.whole l.count;
}

-- how many bits are left
abbrev pub decreases-loop-count : goal.decreases-loop-count
decreases-loop-count l = l.state.end - l.state.at

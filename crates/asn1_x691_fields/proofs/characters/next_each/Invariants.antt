use Rattle.std.proofs.Common.{◌≡◌, ◌+◌, ◌*◌}
use Rattle.asn1_bits.specs.Bits.{bits}
use Rattle.asn1_x691_fields.specs.Outcomes.{IsWithin, IsOnward}
use Rattle.asn1_x691_fields.specs.TextSteps.{AreGoingOn}
use Rattle.asn1_x691_fields.proofs.characters.next_each.Given as goal

abbrev pub invariant-loop-left : goal.invariant-loop-left
invariant-loop-left l = record {
  within : IsWithin (bits l.octets) l.state;
  onward : IsOnward (bits l.octets) l.initial.state l.state;
  place : l.state.at + l.alphabet.width * l.left ≡ l.at + l.alphabet.width * l.initial.left;
  going : AreGoingOn l.alphabet l.node (bits l.octets) l.initial.left l.left l.initial.state l.state;
}

abbrev pub decreases-loop-left : goal.decreases-loop-left
decreases-loop-left l = l.left

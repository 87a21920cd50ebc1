use Rattle.std.proofs.Common.{◌-◌}
use Rattle.asn1_bits.specs.Bits.{bits}
use Rattle.asn1_x690_fields.specs.Outcomes.{rest, IsOnward}
use Rattle.asn1_x690_fields.proofs.NumberSteps.{IsRun}
use Rattle.asn1_x690_fields.proofs.identifier.next_long_number.Given as goal

abbrev pub invariant-loop-is_more : goal.invariant-loop-is_more
invariant-loop-is_more l =
    IsOnward (bits l.octets) l.fn.state l.state
    × IsRun l.node (rest (bits l.octets) l.fn.state) (rest (bits l.octets) l.state) l.first l.number l.is_more

abbrev pub decreases-loop-is_more : goal.decreases-loop-is_more
decreases-loop-is_more l = l.state.end - l.state.at

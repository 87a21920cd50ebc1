use Rattle.std.proofs.Common.{◌-◌, ◌*◌, ◌+◌}
use Rattle.asn1_bits.specs.Bits.{bits}
use Rattle.asn1_x690_elements.specs.Walks.{IsMoved}
use Rattle.asn1_x690_elements.proofs.WalkSteps.{IsUnderway}
use Rattle.asn1_x690_elements.proofs.elements.+decoding.Given as goal

abbrev pub decreases-decode_level : goal.decreases-decode_level
decreases-decode_level l = 3 * l.depth

abbrev pub decreases-decode_inside : goal.decreases-decode_inside
decreases-decode_inside l = 3 * l.depth + 1

abbrev pub decreases-decode_items : goal.decreases-decode_items
decreases-decode_items l = 3 * l.depth + 2

abbrev pub invariant-decode_items-loop-state : goal.invariant-decode_items-loop-state
invariant-decode_items-loop-state l =
    IsMoved (bits l.octets) l.fn.state l.state
    × IsUnderway (bits l.octets) l.depth l.fn.state l.state l.fn.room l.room

abbrev pub decreases-decode_items-loop-state : goal.decreases-decode_items-loop-state
decreases-decode_items-loop-state l = l.state.end - l.state.at

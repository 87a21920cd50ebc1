use Rattle.std.proofs.Common.{◌-◌, ◌*◌, ◌≤◌, List, Bool}
use Rattle.asn1_bits.specs.Bits.{bits}
use Rattle.asn1_schema.specs.Pieces.{Unknown}
use Rattle.asn1_x690.specs.declared.fault.FaultKind.TheVariants.{Extra}
use Rattle.asn1_x690.specs.Der.{element, any_value}
use Rattle.asn1_x690_decode.specs.Decoding.{IsMoved}
use Rattle.asn1_x690_decode.proofs.ItemSteps.{IsUnderway}
use Rattle.asn1_x690_decode.proofs.additions.keep_elements.Given as goal

abbrev pub invariant-loop-state : goal.invariant-loop-state
invariant-loop-state l = record {
  moved : IsMoved (bits l.context.octets.now) l.fn.state l.state;
  few : 8 * l.count ≤ l.state.at;
  underway : (before : List Bool) × IsUnderway Extra l.fn.node (λ b. element l.fn.node (any_value Unknown l.fn.node)) l.context.tables.ranges.now
      (bits l.context.octets.now) l.fn.state l.state l.fn.parts l.parts before l.count;
}

abbrev pub decreases-loop-state : goal.decreases-loop-state
decreases-loop-state l = l.state.end - l.state.at

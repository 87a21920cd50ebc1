use Rattle.std.proofs.Common.{◌-◌}
use Rattle.asn1_x690_encode.specs.AdditionSteps.{AreKept}
use Rattle.asn1_x690_encode.proofs.additions.encode_unknown.Given as goal

abbrev pub invariant-loop-left : goal.invariant-loop-left
invariant-loop-left l =
    AreKept l.node l.context (l.fn.count - l.fn.known) l.left l.begins l.initial.octets l.initial.state l.octets l.state

abbrev pub decreases-loop-left : goal.decreases-loop-left
decreases-loop-left l = l.left

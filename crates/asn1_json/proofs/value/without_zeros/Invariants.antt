use Rattle.std.proofs.Common.{◌≤◌}
use Rattle.asn1_json.proofs.value.without_zeros.Given as goal

abbrev pub invariant-loop-left : goal.invariant-loop-left
invariant-loop-left l = record { most : l.left ≤ l.fn.count; least : l.fn.least ≤ l.fn.count → l.fn.least ≤ l.left }

abbrev pub decreases-loop-left : goal.decreases-loop-left
decreases-loop-left l = l.left

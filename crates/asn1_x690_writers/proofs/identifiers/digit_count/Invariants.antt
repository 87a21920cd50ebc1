use Rattle.std.proofs.Common.{◌-◌, ◌*◌, ◌^◌, ◌≤◌}
use Rattle.asn1_x690_writers.proofs.identifiers.digit_count.Given as goal

abbrev pub invariant-loop-count : goal.invariant-loop-count
invariant-loop-count l = 2 ^ (7 * (l.count - 1)) ≤ l.number

use Rattle.std.proofs.Common.{◌+◌, ◌-◌, ◌*◌, ◌^◌, ◌≤◌, ◌<◌}
use Rattle.asn1_x690_writers.proofs.integers.octets_past_first.Given as goal

abbrev pub invariant-loop-count : goal.invariant-loop-count
invariant-loop-count l = 0 < l.count → 2 ^ (8 * (l.count - 1) + 7) ≤ l.magnitude

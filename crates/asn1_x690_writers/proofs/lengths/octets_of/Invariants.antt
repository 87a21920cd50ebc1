use Rattle.std.proofs.Common.{◌-◌, ◌*◌, ◌^◌, ◌≤◌}
use Rattle.asn1_x690_writers.proofs.lengths.octets_of.Given as goal

abbrev pub invariant-loop-octets : goal.invariant-loop-octets
invariant-loop-octets l = 2 ^ (8 * (l.octets - 1)) ≤ l.number

use Rattle.std.proofs.Common.{pos, negsuc}
use Rattle.asn1_x690_writers.proofs.integers.put_integer.Goals as goal

pub put_far-requires-clause-far : goal.put_far-requires-clause-far
put_far-requires-clause-far c ranges = let h = c.in-FarAbove.ensures ranges in (pos h.0, h.1, h.2)

pub put_far-requires-in-FarBelow-clause-far : goal.put_far-requires-in-FarBelow-clause-far
put_far-requires-in-FarBelow-clause-far c ranges = let h = c.in-FarBelow.ensures ranges in (negsuc h.0, h.1, h.2)

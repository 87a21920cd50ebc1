use Rattle.std.proofs.Common.{refl, inl}
use Rattle.asn1_x690_leaves.proofs.integers.integer.Goals as goal

pub returns-then-not-is_minimal : goal.returns-then-not-is_minimal
returns-then-not-is_minimal c ranges = inl (refl, c.is_minimal.ensures.no c.if-not-is_minimal.true)

use Rattle.std.proofs.Common.{refl, inl, arith}
use Rattle.asn1_bits.specs.Laws.DigitLaws.{length-bits}
use Rattle.asn1_x690_leaves.proofs.integers.integer_at_least.Goals as goal

pub returns-then-not-is_minimal : goal.returns-then-not-is_minimal
returns-then-not-is_minimal c ranges = inl (refl, c.is_minimal.ensures.no c.if-not-is_minimal.true)

pub is_below-requires-clause-inside : goal.is_below-requires-clause-inside
is_below-requires-clause-inside c =
    let i = c.requires.contents.inside in omega (arith, length-bits c.args.octets.now, i)

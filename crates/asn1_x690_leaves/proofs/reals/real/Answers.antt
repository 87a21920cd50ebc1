use Rattle.std.proofs.Common.{arith}
use Rattle.asn1_bits.specs.Laws.DigitLaws.{length-bits}
use Rattle.asn1_x690_leaves.proofs.reals.real.Goals as goal

pub is_real_at-requires-clause-inside : goal.is_real_at-requires-clause-inside
is_real_at-requires-clause-inside c =
    let i = c.requires.contents.inside in omega (arith, length-bits c.args.octets.now, i)

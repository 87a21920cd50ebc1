use Rattle.std.proofs.Common.{arith}
use Rattle.std.proofs.Math.Pow.{pow_mono}
use Rattle.asn1_characters.proofs.widths.width_for.Goals as goal

pub returns-else-count-le1-clause-enough : goal.returns-else-count-le1-clause-enough
returns-else-count-le1-clause-enough c =
    let up = pow_mono c.align.ensures.grows in omega (arith, c.ceil_log2.ensures.least.enough)

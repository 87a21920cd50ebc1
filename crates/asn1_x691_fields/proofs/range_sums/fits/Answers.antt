use Rattle.std.proofs.Common.{◌^◌, ◌≤◌, arith}
use Rattle.std.proofs.Math.Pow.{pow_mono}
use Rattle.asn1_x691_fields.proofs.range_sums.fits.Goals as goal

pub returns-then-width-ge64-clause-yes : goal.returns-then-width-ge64-clause-yes
returns-then-width-ge64-clause-yes c e =
    let up : 2 ^ 64 ≤ 2 ^ c.args.width = pow_mono c.if-width-ge64.true in omega (arith, up, c.ranges.end)

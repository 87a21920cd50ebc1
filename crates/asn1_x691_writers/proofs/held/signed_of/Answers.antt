use Rattle.std.proofs.Common.{◌-◌, ◌^◌, ◌≤◌, arith}
use Rattle.std.proofs.Math.Pow.{pow_mono}
use Rattle.asn1_x691_writers.proofs.held.signed_of.Goals as goal

pub far_by_sign-requires-clause-far : goal.far_by_sign-requires-clause-far
far_by_sign-requires-clause-far c =
    let many : 127 ≤ c.strip_signs-digits.result.count - 2 = omega (arith, c.if-digits-gt128.true) in
    let up : 2 ^ 127 ≤ 2 ^ (c.strip_signs-digits.result.count - 2) = pow_mono many in
    let low = c.strip_signs-digits.ensures.first (omega (arith, c.if-digits-gt128.true)) in
    omega (arith, up, low)

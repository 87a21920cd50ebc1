use Rattle.std.proofs.Common.{◌-◌, ◌^◌, ◌≤◌, ap, ◌∙◌, arith}
use Rattle.std.proofs.Math.Pow.{pow_mono}
use Rattle.asn1_bits.specs.Bits.{bits, number}
use Rattle.asn1_schema.specs.PiecesOfParts.{natural_of}
use Rattle.asn1_x691_writers.proofs.enumerations.natural.Goals as goal

pub returns-then-digits-gt128 : goal.returns-then-digits-gt128
returns-then-digits-gt128 c =
    let many : 128 ≤ c.strip_zeros-digits.result.count - 1 = omega (arith, c.if-digits-gt128.true) in
    let up : 2 ^ 128 ≤ 2 ^ (c.strip_zeros-digits.result.count - 1) = pow_mono many in
    let low = c.strip_zeros-digits.ensures.first (omega (arith, c.if-digits-gt128.true)) in
    let same = c.strip_zeros-digits.ensures.same ∙ ap number c.clip.ensures.same in
    let is = ap (natural_of (bits c.args.source.now)) c.in-Large.is in
    omega (arith, up, low, same, is)

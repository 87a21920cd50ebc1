use Rattle.std.proofs.Common.{◌+◌, ◌*◌, ◌<◌, length, refl, inr, arith}
use Rattle.asn1_bits.specs.Bits.{digits}
use Rattle.asn1_bits.specs.Laws.DigitLaws.{length-digits}
use Rattle.asn1_x691_writers.proofs.enclosed.put_over.Goals as goal

pub returns-then-at-width : goal.returns-then-at-width
returns-then-at-width c =
    let short : 8 * length c.args.octets.now < c.args.at + length (digits c.args.value c.args.width) =
    omega (arith, c.if-at-width.true, length-digits c.args.value c.args.width) in
    inr (refl, short)

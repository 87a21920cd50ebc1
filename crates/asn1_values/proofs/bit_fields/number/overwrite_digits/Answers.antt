use Rattle.std.proofs.Common.{arith}
use Rattle.asn1_bits.specs.Laws.DigitLaws.{length-digits}
use Rattle.asn1_values.proofs.bit_fields.number.overwrite_digits.Goals as goal

pub returns : goal.returns
returns c =
    record { written = c.overwrite_number.ensures.bits; end = omega (arith, length-digits c.args.value c.args.width) }

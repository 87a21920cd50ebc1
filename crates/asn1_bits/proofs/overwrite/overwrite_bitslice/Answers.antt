use Rattle.std.proofs.Common.{Bool, List, ap, ◌∙◌, arith}
use Rattle.asn1_bits.specs.Bits.{bits, ored}
use Rattle.asn1_bits.specs.BitStr.{bits_of}
use Rattle.asn1_bits.specs.Laws.DigitLaws.{length-bits}
use Rattle.asn1_bits.proofs.OverwriteLemmas.{overwritten-ored}
use Rattle.asn1_bits.proofs.overwrite.overwrite_bitslice.Goals as goal

pub returns-clause-bits : goal.returns-clause-bits
returns-clause-bits c =
    let len = c.len.ensures in
    c.write_bitslice.ensures.bits
    ∙ ap (λ (l : List Bool). ored l c.args.position (bits_of c.args.src)) c.clear_bits.ensures
    ∙ overwritten-ored (bits c.args.dst.now) (bits_of c.args.src) c.args.position c.len.result (omega (arith, len.list))
    (omega (arith, len.len, c.requires.room, length-bits c.args.dst.now))

use Rattle.std.proofs.Common.{Bool, List, ap, ◌∙◌, arith}
use Rattle.asn1_bits.specs.Bits.{digits, bits, ored}
use Rattle.asn1_bits.specs.Laws.DigitLaws.{length-digits, length-bits}
use Rattle.asn1_bits.proofs.OverwriteLemmas.{overwritten-ored}
use Rattle.asn1_bits.proofs.target.stores.set_short.Goals as goal

pub returns : goal.returns
returns c =
    let list = digits c.args.word c.args.width in
    c.or_short.ensures
    ∙ ap (λ (l : List Bool). ored l c.args.position list) c.clear_bits.ensures
    ∙ overwritten-ored (bits c.args.dst.now) list c.args.position c.args.width (length-digits c.args.word c.args.width)
    (omega (arith, c.requires.within, length-bits c.args.dst.now))

use Rattle.std.proofs.Common.{◌+◌, ◌-◌, ap, ◌∙◌, arith}
use Rattle.asn1_bits.specs.Bits.{bits, ored}
use Rattle.asn1_bits.specs.Laws.DigitLaws.{length-bits}
use Rattle.asn1_bits.proofs.PutLemmas.{placed-two, digits-lowest}
use Rattle.asn1_bits.proofs.window.put_apart.Goals as goal

pub returns-then-width-le64-clause-bits : goal.returns-then-width-le64-clause-bits
returns-then-width-le64-clause-bits c =
    c.or_word.ensures.bits
    ∙ ap (ored (bits c.args.dst.now.octets.now) c.args.position) (digits-lowest c.args.number c.args.width (omega arith))

pub returns-else-width-le64-clause-bits : goal.returns-else-width-le64-clause-bits
returns-else-width-le64-clause-bits c =
    let front = c.args.width - 64 in
    placed-two (bits c.args.dst.now.octets.now) (bits c.or_word-else-width-le64.new.self.octets.now) (bits c.or_word-else-width-le64-2.new.self.octets.now)
    c.args.position (c.args.position + front) c.args.number front 64 c.args.width
    c.or_word-else-width-le64.ensures.bits
    (c.or_word-else-width-le64-2.ensures.bits
    ∙ ap (ored (bits c.or_word-else-width-le64.new.self.octets.now) (c.args.position + front))
    (digits-lowest c.args.number 64 (omega arith)))
    (omega arith) (omega arith) (omega (arith, length-bits c.args.dst.now.octets.now, c.requires.within))

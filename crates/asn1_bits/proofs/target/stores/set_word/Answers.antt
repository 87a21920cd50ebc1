use Rattle.std.proofs.Common.{◌+◌, ◌-◌, ◌%◌, refl, arith}
use Rattle.asn1_bits.specs.Bits.{bits}
use Rattle.asn1_bits.specs.Laws.DigitLaws.{length-bits}
use Rattle.asn1_bits.proofs.OverwriteLemmas.{two-written}
use Rattle.asn1_bits.proofs.target.stores.set_word.Goals as goal

pub returns-else-position-width-le64 : goal.returns-else-position-width-le64
returns-else-position-width-le64 c =
    let place = c.args.position in
    let past = place % 8 + c.args.width - 64 in
    two-written (bits c.args.dst.now) (bits c.set_near-else-position-width-le64.new.dst)
    (bits c.set_near-else-position-width-le64-2.new.dst) place (place + (c.args.width - past)) c.args.word
    (c.args.width - past) past c.args.word c.args.width (omega (arith, c.if-position-width-le64.false)) refl
    (omega (arith, c.requires.within, length-bits c.args.dst.now)) c.set_near-else-position-width-le64.ensures refl
    c.set_near-else-position-width-le64-2.ensures

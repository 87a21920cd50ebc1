use Rattle.std.proofs.Common.{◌≡◌, ◌*◌, arith}
use Rattle.asn1_bits.specs.Bits.{bits}
use Rattle.asn1_bits.proofs.WindowLemmas.{ored-no_digits}
use Rattle.asn1_bits.proofs.target.stores.or_front.Goals as goal

pub returns-else-width-gt0 : goal.returns-else-width-gt0
returns-else-width-gt0 c =
    let none : c.args.width ≡ 0 = omega (arith, c.if-width-gt0.false) in
    rw none (ored-no_digits (bits c.args.dst.now) (8 * c.args.octet) c.args.word)

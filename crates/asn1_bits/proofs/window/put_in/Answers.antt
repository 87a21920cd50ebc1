use Rattle.std.proofs.Common.{◌≡◌, sym, ap, ◌∙◌, arith}
use Rattle.asn1_bits.specs.Bits.{bits, digits, ored}
use Rattle.asn1_bits.proofs.OredLemmas.{ored-none}
use Rattle.asn1_bits.proofs.PutLemmas.{digits-lowest}
use Rattle.asn1_bits.proofs.window.put_in.Goals as goal

pub returns-then-width-eq0-clause-bits : goal.returns-then-width-eq0-clause-bits
unfolding digits
returns-then-width-eq0-clause-bits c =
    let none : c.args.width ≡ 0 = omega (arith, c.if-width-eq0.true) in
    rw none (sym (ored-none (bits c.args.dst.now.octets.now) c.args.position))

pub returns-then-position-octet_count-clause-bits : goal.returns-then-position-octet_count-clause-bits
returns-then-position-octet_count-clause-bits c =
    c.or_short.ensures.bits
    ∙ ap (ored (bits c.args.dst.now.octets.now) c.args.position)
    (digits-lowest c.args.number c.args.width (omega (arith, c.if-width-le57.true)))

pub returns-else-position-octet_count-clause-bits : goal.returns-else-position-octet_count-clause-bits
returns-else-position-octet_count-clause-bits c =
    c.put_word.ensures.bits
    ∙ ap (ored (bits c.args.dst.now.octets.now) c.args.position)
    (digits-lowest c.args.number c.args.width (omega (arith, c.if-width-le57.true)))

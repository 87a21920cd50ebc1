use Rattle.std.proofs.Common.{ℕ, ◌+◌, ◌-◌, refl, sym, ap, ◌∙◌, arith}
use Rattle.asn1_bits.specs.Bits.{digits, bits, overwritten}
use Rattle.asn1_bits.specs.Laws.DigitLaws.{length-bits}
use Rattle.asn1_bits.specs.Laws.OverwrittenLaws.{overwritten-none}
use Rattle.asn1_bits.proofs.OverwriteLemmas.{two-written}
use Rattle.asn1_bits.proofs.PutLemmas.{digits-lowest}
use Rattle.asn1_bits.proofs.overwrite.overwrite_digits.Goals as goal

pub returns-then-width-eq0-clause-bits : goal.returns-then-width-eq0-clause-bits
unfolding digits
returns-then-width-eq0-clause-bits c =
    sym
    (ap (λ (k : ℕ). overwritten (bits c.args.dst.now.octets.now) c.args.position (digits c.args.value k))
    c.if-width-eq0.true
    ∙ overwritten-none (bits c.args.dst.now.octets.now) c.args.position)

pub returns-then-width-le64-clause-bits : goal.returns-then-width-le64-clause-bits
returns-then-width-le64-clause-bits c =
    c.set_word.ensures.bits
    ∙ ap (overwritten (bits c.args.dst.now.octets.now) c.args.position)
    (digits-lowest c.args.value c.args.width (omega (arith, c.if-width-le64.true)))

pub returns-else-width-le64-clause-bits : goal.returns-else-width-le64-clause-bits
returns-else-width-le64-clause-bits c =
    two-written (bits c.args.dst.now.octets.now) (bits c.set_word-else-width-le64.new.self.octets.now)
    (bits c.set_word-else-width-le64-2.new.self.octets.now) c.args.position (c.args.position + (c.args.width - 64))
    c.args.value (c.args.width - 64) 64 _ c.args.width (omega (arith, c.if-width-le64.false)) refl
    (omega (arith, c.requires.room, length-bits c.args.dst.now.octets.now)) c.set_word-else-width-le64.ensures.bits
    (digits-lowest c.args.value 64 (omega arith)) c.set_word-else-width-le64-2.ensures.bits

use Rattle.std.proofs.Common.{◌≡◌, ℕ, ◌+◌, ◌-◌, ◌*◌, take, drop, ap, ◌∙◌, arith}
use Rattle.asn1_bits.specs.Bits.{bits, number}
use Rattle.asn1_bits.proofs.ReadWideLemmas.{read-word}
use Rattle.asn1_x691_fields.proofs.windows.window_at.Goals as goal

pub word_at-requires : goal.word_at-requires
word_at-requires c = omega (arith, c.min-first.ensures, c.if-len-lt8.false)

pub returns-clause-is : goal.returns-clause-is
returns-clause-is c =
    let list = bits c.args.octets.now in
    let at = c.args.at in
    let first = c.min-first.result in
    record {
      shift = omega (arith, c.min-first.ensures, c.if-len-lt8.false, c.requires.within);
      numbers = λ skipped width h.
          let shift = at - 8 * first in
          let place : 8 * first + (shift + skipped) ≡ at + skipped = omega (arith, c.min-first.ensures) in
          read-word list (8 * first) (shift + skipped) width c.word_at.result (omega (arith, h)) c.word_at.ensures
          ∙ ap (λ (p : ℕ). number (take width (drop p list))) place;
    }

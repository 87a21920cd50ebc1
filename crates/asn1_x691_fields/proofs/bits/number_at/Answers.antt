use Rattle.std.proofs.Common.{◌≡◌, ℕ, ◌+◌, ◌-◌, ◌*◌, ◌/◌, ◌%◌, ◌^◌, ap, ◌∙◌, take, drop, arith}
use Rattle.std.proofs.lemmas.Nat.{shr-shr}
use Rattle.asn1_bits.specs.Bits.{bits, number}
use Rattle.asn1_bits.proofs.ReadWideLemmas.{read-word}
use Rattle.asn1_x691_fields.proofs.bits.number_at.Goals as goal

pub returns-then-first-saturating_sub : goal.returns-then-first-saturating_sub
returns-then-first-saturating_sub c =
    let width = c.args.width in
    let at = c.args.at in
    let x = c.word_at.result * 2 ^ (at % 8) % 2 ^ 64 in
    let same : 1 + (63 - width) ≡ 64 - width = omega (arith, c.requires.width) in
    let index : 8 * (at / 8) + at % 8 ≡ at = omega arith in
    shr-shr x 1 (63 - width)
    ∙ ap (λ (k : ℕ). x / 2 ^ k) same
    ∙ read-word (bits c.args.octets.now) (8 * (at / 8)) (at % 8) width c.word_at.result
    (omega (arith, c.requires)) c.word_at.ensures
    ∙ ap (λ (p : ℕ). number (take width (drop p (bits c.args.octets.now)))) index

use Rattle.std.proofs.Common.{ℕ, ◌-◌, ap, ◌∙◌}
use Rattle.std.specs.Prelude.{bit_and}
use Rattle.std.proofs.lemmas.Nat.{and_mask, one_shl}
use Rattle.asn1_bits.specs.Bits.{digits}
use Rattle.asn1_bits.specs.Laws.ByteLaws.{digits-mod}
use Rattle.asn1_bits.proofs.window.lowest.Goals as goal

pub returns-then-width-lt64-clause-digits : goal.returns-then-width-lt64-clause-digits
returns-then-width-lt64-clause-digits c =
    let word = c.args.word in
    let width = c.args.width in
    ap (λ (n : ℕ). digits (bit_and word (n - 1)) width) (one_shl width 64 c.if-width-lt64.true)
    ∙ ap (λ (n : ℕ). digits n width) (and_mask word width)
    ∙ digits-mod word width

use Rattle.std.proofs.Common.{ℕ, ◌-◌, ap, ◌∙◌, arith}
use Rattle.std.specs.Prelude.{bit_and}
use Rattle.std.proofs.lemmas.Nat.{and_mask, one_shl}
use Rattle.asn1_bits.specs.Bits.{digits}
use Rattle.asn1_bits.specs.Laws.ByteLaws.{digits-mod}
use Rattle.asn1_bits.proofs.PutLemmas.{digits-lowest}
use Rattle.asn1_bits.proofs.window.lowest_wide.Goals as goal

pub returns-then-width-le57-clause-digits : goal.returns-then-width-le57-clause-digits
returns-then-width-le57-clause-digits c =
    let width = c.args.width in
    ap (λ (n : ℕ). digits n width) c.from.ensures
    ∙ c.lowest.ensures.digits
    ∙ digits-lowest c.args.value width (omega (arith, c.if-width-le57.true))

pub returns-then-width-lt128-clause-digits : goal.returns-then-width-lt128-clause-digits
returns-then-width-lt128-clause-digits c =
    let value = c.args.value in
    let width = c.args.width in
    ap (λ (n : ℕ). digits (bit_and value (n - 1)) width) (one_shl width 128 c.if-width-lt128.true)
    ∙ ap (λ (n : ℕ). digits n width) (and_mask value width)
    ∙ digits-mod value width

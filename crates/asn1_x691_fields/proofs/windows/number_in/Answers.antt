use Rattle.std.proofs.Common.{◌≡◌, ℕ, ◌+◌, ◌-◌, ◌*◌, ◌/◌, ◌%◌, ◌^◌, ap, ◌∙◌, arith}
use Rattle.std.proofs.lemmas.Nat.{shr-shr}
use Rattle.asn1_x691_fields.proofs.windows.number_in.Goals as goal

pub returns : goal.returns
returns c =
    let width = c.args.width in
    let x = c.args.window.word * 2 ^ (c.args.window.shift + c.args.skipped) % 2 ^ 64 in
    let same : 1 + (63 - width) ≡ 64 - width = omega (arith, c.requires.width) in
    shr-shr x 1 (63 - width) ∙ ap (λ (k : ℕ). x / 2 ^ k) same

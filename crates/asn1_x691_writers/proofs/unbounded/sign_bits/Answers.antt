use Rattle.std.proofs.Common.{◌-◌, ◌*◌, ◌%◌, ◌^◌, ◌<◌, ◌≤◌, Bool, replicate, sym, ap, ◌∙◌, arith}
use Rattle.std.proofs.Math.Nat.{mod-eq_of_lt}
use Rattle.std.proofs.Math.Pow.{pow_mono}
use Rattle.std.proofs.lemmas.Nat.{pow_pos}
use Rattle.asn1_bits.proofs.BufferLemmas.{digits-zero}
use Rattle.asn1_x691_writers.specs.SpanSteps.{ones_digits}
use Rattle.asn1_x691_writers.proofs.unbounded.sign_bits.Goals as goal

pub returns-then-sign-clause-digits : goal.returns-then-sign-clause-digits
returns-then-sign-clause-digits c =
    let few : c.args.count ≤ 7 = omega (arith, c.requires) in
    let up : 2 ^ c.args.count ≤ 2 ^ 7 = pow_mono few in
    let some : 0 < 2 ^ c.args.count = pow_pos c.args.count in
    let fits : 1 * 2 ^ c.args.count < 2 ^ 64 = omega (arith, up) in
    let same = mod-eq_of_lt fits in
    ones_digits (1 * 2 ^ c.args.count % 2 ^ 64 - 1) c.args.count (omega (arith, same, some))
    ∙ ap (λ (b : Bool). replicate c.args.count b) (sym c.if-sign.true)

pub returns-clause-digits : goal.returns-clause-digits
returns-clause-digits c = digits-zero c.args.count ∙ ap (λ (b : Bool). replicate c.args.count b) (sym c.if-sign.false)

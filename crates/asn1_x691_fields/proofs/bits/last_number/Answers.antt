use Rattle.std.proofs.Common.{◌^◌, ◌<◌, ◌≤◌, ◌∙◌, arith}
use Rattle.std.proofs.lemmas.Nat.{and_mask}
use Rattle.std.proofs.Math.Nat.{pow-le-pow_right, mod-eq_of_lt}
use Rattle.asn1_x691_fields.proofs.bits.last_number.Goals as goal

pub returns : goal.returns
returns c =
    let n = c.read_wide-number.result in
    let top : 2 ^ c.args.width ≤ 2 ^ 64 = pow-le-pow_right {n = 2} (omega arith) {i = c.args.width} {j = 64} c.requires.width in
    let small : n < 2 ^ 64 = omega (arith, c.read_wide-number.ensures.below, top) in
    and_mask n 64 ∙ mod-eq_of_lt small ∙ c.read_wide-number.ensures.number

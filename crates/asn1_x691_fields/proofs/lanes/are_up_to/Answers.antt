use Rattle.std.proofs.Common.{◌≡◌, ◌≤◌, ◌^◌, ◌*◌, ◌%◌, ◌-◌, ◌+◌, ℕ, arith, subst}
use Rattle.std.specs.Prelude.{bit_and}
use Rattle.std.specs.Int.Bits.{bit_xor}
use Rattle.std.proofs.Math.Nat.{mod-eq_of_lt}
use Rattle.std.proofs.Math.Pow.{pow_mono}
use Rattle.std.proofs.lemmas.Bool.{eqb-true}
use Rattle.std.proofs.lemmas.Nat.{one_shl}
use Rattle.asn1_bits.specs.Bits.{digits}
use Rattle.asn1_x691_fields.proofs.LaneLemmas.{product_fits, shift_fits, all_up_to, all_below}
use Rattle.asn1_x691_fields.proofs.lanes.are_up_to.Goals as goal

pub returns-then-most-top : goal.returns-then-most-top
returns-then-most-top c e =
    let w = c.args.width in
    let power = one_shl w 64 (omega (arith, c.requires.narrow)) in
    all_below w c.args.most c.args.count (digits c.args.word (w * c.args.count)) (omega (arith, power, c.if-most-top.true))

pub overflow_mul-left : goal.overflow_mul-left
overflow_mul-left c =
    let w = c.args.width in
    let power = one_shl w 64 (omega (arith, c.requires.narrow)) in
    let left = 1 * 2 ^ w % 2 ^ 64 - 1 - c.args.most in
    let fits = product_fits w c.ones_of-ones.result c.requires.some c.ones_of-ones.ensures left (omega (arith, power)) in
    omega (arith, fits)

pub overflow_add-result : goal.overflow_add-result
overflow_add-result c =
    let w = c.args.width in
    let power = one_shl w 64 (omega (arith, c.requires.narrow)) in
    let left = 1 * 2 ^ w % 2 ^ 64 - 1 - c.args.most in
    let fits = product_fits w c.ones_of-ones.result c.requires.some c.ones_of-ones.ensures left (omega (arith, power)) in
    let up : 2 ^ (w * c.args.count) ≤ 2 ^ 63 = pow_mono c.requires.few in
    omega (arith, fits, up, c.requires.below)

pub returns : goal.returns
returns c e =
    let w = c.args.width in
    let word = c.args.word in
    let o = c.ones_of-ones.result in
    let power : 1 * 2 ^ w % 2 ^ 64 ≡ 2 ^ w = one_shl w 64 (omega (arith, c.requires.narrow)) in
    let shifted : o * 2 ^ w % 2 ^ 64 ≡ o * 2 ^ w = mod-eq_of_lt (shift_fits w o c.requires.some c.ones_of-ones.ensures) in
    let P : ℕ → ℕ → Type 0 = λ p m. bit_and (bit_xor (bit_xor (word + (p - 1 - c.args.most) * o) word) ((p - 1 - c.args.most) * o)) m ≡ 0 in
    let test : P (1 * 2 ^ w % 2 ^ 64) (o * 2 ^ w % 2 ^ 64) = eqb-true _ _ e in
    all_up_to w o c.requires.some c.ones_of-ones.ensures c.args.most c.args.count word c.requires.few c.requires.below
    (subst (λ (p : ℕ). P p (o * 2 ^ w)) power (subst (λ (m : ℕ). P (1 * 2 ^ w % 2 ^ 64) m) shifted test))

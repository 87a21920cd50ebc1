use Rattle.std.proofs.Common.{◌≡◌, ◌-◌, ◌*◌, ◌^◌, ◌≤◌, false, ℕ, ℤ, pos, ap, subst, ◌∙◌, to_z, of_z, arith}
use Rattle.std.proofs.Math.Pow.{pow_mono}
use Rattle.std.proofs.lemmas.Int.{to_z-of_z}
use Rattle.std.specs.Int.{w128}
use lib.Signed.{le_z}
use Rattle.asn1_x690_writers.specs.Numbers.{mag_of}
use Rattle.asn1_x690_writers.specs.NumberSteps.{mask_is, negative_digits, some_power}
use Rattle.asn1_x690_writers.proofs.integers.digits_of.Goals as goal

pub overflow_sub-result-2 : goal.overflow_sub-result-2
overflow_sub-result-2 c =
    let n = c.args.count in
    let e = mask_is n c.requires.few in
    let same : to_z w128 (of_z w128 c.args.z) ≡ c.args.z = to_z-of_z w128 c.args.z c.ranges.z in
    let m : c.magnitude_of.result ≡ mag_of c.args.z = c.magnitude_of.ensures.value ∙ ap mag_of same in
    let up : 2 ^ (8 * n - 1) ≤ 2 ^ (8 * n) = pow_mono (let h : 8 * n - 1 ≤ 8 * n = omega arith in h) in
    omega (arith, e, up, c.requires.holds, m)

pub returns-clause-value : goal.returns-clause-value
returns-clause-value c =
    let n = c.args.count in
    let same : to_z w128 (of_z w128 c.args.z) ≡ c.args.z = to_z-of_z w128 c.args.z c.ranges.z in
    let m : c.magnitude_of.result ≡ mag_of c.args.z = c.magnitude_of.ensures.value ∙ ap mag_of same in
    let low : le_z (pos 0) c.args.z ≡ false = subst (λ (z : ℤ). le_z (pos 0) z ≡ false) same c.if-z-ge0.false in
    ap (λ (k : ℕ). k - c.magnitude_of.result) (mask_is n c.requires.few) ∙ negative_digits c.args.z n c.magnitude_of.result low m

pub returns-clause-below : goal.returns-clause-below
returns-clause-below c =
    let n = c.args.count in
    let e = mask_is n c.requires.few in
    let some = some_power n in
    omega (arith, e, some)

use Rattle.std.proofs.Common.{◌≡◌, ◌-◌, ◌*◌, ◌^◌, ◌≤◌, ap, ◌∙◌, arith}
use Rattle.std.specs.Int.{w128}
use Rattle.std.proofs.lemmas.Int.{to_z-of_z}
use Rattle.std.proofs.Math.Pow.{pow_mono}
use Rattle.asn1_x691_fields.specs.Numbers.{distance}
use Rattle.asn1_x691_writers.proofs.WidthLemmas.{ones}
use Rattle.asn1_x691_writers.proofs.unbounded.signed_digits.Goals as goal

pub overflow_sub-result-then-z-lt0 : goal.overflow_sub-result-then-z-lt0
overflow_sub-result-then-z-lt0 c =
    let all = ones (8 * c.args.count) (omega (arith, c.requires.few)) in
    let le : 8 * c.args.count - 1 ≤ 8 * c.args.count = omega arith in
    let up : 2 ^ (8 * c.args.count - 1) ≤ 2 ^ (8 * c.args.count) = pow_mono le in
    let e = c.distance_of.ensures.value ∙ ap distance (to_z-of_z w128 c.args.z c.ranges.z) in
    omega (arith, all, up, c.requires.below, e)

pub returns-then-z-lt0-clause-negative : goal.returns-then-z-lt0-clause-negative
returns-then-z-lt0-clause-negative c u e =
    let all = ones (8 * c.args.count) (omega (arith, c.requires.few)) in
    let f : c.distance_of.result ≡ u = c.distance_of.ensures.value ∙ ap distance (to_z-of_z w128 c.args.z c.ranges.z ∙ e) in
    omega (arith, all, f)

pub returns-then-z-lt0-clause-digits : goal.returns-then-z-lt0-clause-digits
returns-then-z-lt0-clause-digits c =
    let all = ones (8 * c.args.count) (omega (arith, c.requires.few)) in
    let le : 0 ≤ 8 * c.args.count = omega arith in
    let up : 2 ^ 0 ≤ 2 ^ (8 * c.args.count) = pow_mono le in
    omega (arith, all, up)

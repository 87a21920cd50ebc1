use Rattle.std.proofs.Common.{◌≡◌, ℤ, pos, ◌-◌, ◌^◌, ◌≤◌, ap, ◌∙◌, arith}
use Rattle.std.specs.Prelude.{unsigned_abs, ◌+ℤ◌, ◌-ℤ◌}
use Rattle.std.specs.Int.{w128}
use Rattle.std.proofs.lemmas.Int.{to_z-of_z}
use Rattle.std.proofs.Math.Pow.{pow_mono}
use Rattle.asn1_bits.specs.Bits.{bits, number}
use Rattle.asn1_schema.specs.PiecesOfParts.{bits_of}
use Rattle.asn1_x691_writers.proofs.HeldLemmas.{positive_far, wide_sum, far_sum}
use Rattle.asn1_x691_writers.proofs.held.above_of.Goals as goal

pub returns-then-digits-gt128 : goal.returns-then-digits-gt128
returns-then-digits-gt128 c =
    let many : 128 ≤ c.strip_zeros-digits.result.count - 1 = omega (arith, c.if-digits-gt128.true) in
    let up : 2 ^ 128 ≤ 2 ^ (c.strip_zeros-digits.result.count - 1) = pow_mono many in
    let low = c.strip_zeros-digits.ensures.first (omega (arith, c.if-digits-gt128.true)) in
    let n = number (bits_of (bits c.args.source.now) c.args.span) in
    positive_far (c.args.least +ℤ pos n)
    (wide_sum c.args.least n c.ranges.least (omega (arith, up, low, c.strip_zeros-digits.ensures.same)))

pub returns-then-n-abs_diff : goal.returns-then-n-abs_diff
returns-then-n-abs_diff c =
    let n = number (bits_of (bits c.args.source.now) c.args.span) in
    let e : c.read_wide-n.result ≡ n = c.read_wide-n.ensures.number ∙ c.strip_zeros-digits.ensures.same in
    positive_far (c.args.least +ℤ pos n)
    (far_sum c.args.least n c.abs_diff.result c.ranges.least
    (c.abs_diff.ensures ∙ ap (λ (z : ℤ). unsigned_abs (pos (2 ^ 127 - 1) -ℤ z)) (to_z-of_z w128 c.args.least c.ranges.least))
    (omega (arith, e, c.if-n-abs_diff.true)))

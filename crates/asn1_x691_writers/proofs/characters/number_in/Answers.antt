use Rattle.std.proofs.Common.{◌-◌, ◌^◌, ◌≤◌, ap, sym, ◌∙◌, arith}
use Rattle.std.proofs.Math.Pow.{pow_mono}
use Rattle.asn1_bits.specs.Bits.{number}
use Rattle.asn1_bits.specs.Laws.NumberLaws.{number_of-digits}
use Rattle.asn1_x691_writers.proofs.characters.number_in.Goals as goal

pub returns-then-span-le57 : goal.returns-then-span-le57
returns-then-span-le57 c =
    let span = c.clip-span.result in
    let e = sym (number_of-digits c.read_few.result span.count c.read_few.ensures.below)
    ∙ ap number (c.read_few.ensures.digits ∙ c.clip-span.ensures.same) in
    let few : span.count ≤ 57 = c.if-span-le57.true in
    let up : 2 ^ span.count ≤ 2 ^ 57 = pow_mono few in
    omega (arith, e, up, c.read_few.ensures.below)

pub returns-then-digits-gt128 : goal.returns-then-digits-gt128
returns-then-digits-gt128 c =
    let many : 128 ≤ c.strip_zeros-digits.result.count - 1 = omega (arith, c.if-digits-gt128.true) in
    let up : 2 ^ 128 ≤ 2 ^ (c.strip_zeros-digits.result.count - 1) = pow_mono many in
    let low = c.strip_zeros-digits.ensures.first (omega (arith, c.if-digits-gt128.true)) in
    let same = c.strip_zeros-digits.ensures.same ∙ ap number c.clip-span.ensures.same in
    omega (arith, up, low, same)

pub returns : goal.returns
returns c =
    let same = c.read_wide.ensures.number ∙ c.strip_zeros-digits.ensures.same ∙ ap number c.clip-span.ensures.same in
    omega (arith, same, c.ranges)

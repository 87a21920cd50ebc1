use Rattle.std.proofs.Common.{◌≡◌, ◌-◌, ◌^◌, ◌≤◌, suc, negsuc, sym, ap, ◌∙◌, arith, pos}
use Rattle.std.specs.Int.{w128}
use mir.Val.{to_z, of_z}
use Rattle.std.proofs.lemmas.Int.{to_z_pos, to_z-of_z}
use Rattle.std.proofs.Math.Pow.{pow_mono}
use Rattle.asn1_bits.specs.Bits.{bits}
use Rattle.asn1_bits.specs.Laws.DigitLaws.{length-bits}
use Rattle.asn1_schema.specs.PiecesOfParts.{bits_of}
use Rattle.asn1_x691_fields.specs.Steps.{front_length}
use Rattle.asn1_x691_fields.specs.SignedSteps.{is_positive, is_negative}
use Rattle.asn1_x691_writers.proofs.held.signed_at.Goals as goal
use Rattle.asn1_x691_writers.proofs.held.signed_at.Goals.{Then-digits-half, Else-digits-half}

half_few : (c : Then-digits-half) → c.half_of-half.result ≤ 2 ^ 127
half_few c =
    let few : c.args.span.count - 1 ≤ 127 = omega (arith, c.requires.few) in
    let up : 2 ^ (c.args.span.count - 1) ≤ 2 ^ 127 = pow_mono few in
    omega (arith, up, c.half_of-half.ensures)

pub overflow_cast-result : goal.overflow_cast-result
overflow_cast-result c = record { sfits = omega (arith, c.if-digits-half.true, half_few c) }

pub returns-then-digits-half : goal.returns-then-digits-half
returns-then-digits-half c =
    let list = bits c.args.octets.now in
    let w = c.args.span.count - 1 in
    let e : suc w ≡ c.args.span.count = omega (arith, c.requires.some) in
    let size = front_length list c.args.span.at c.args.span.count
    (omega (arith, c.requires.inside, length-bits c.args.octets.now)) in
    to_z_pos w128 c.read_wide-digits.result (omega (arith, c.if-digits-half.true, half_few c))
    ∙ ap (λ n. pos n) c.read_wide-digits.ensures.number
    ∙ sym (is_positive (bits_of list c.args.span) w (size ∙ sym e)
    (omega (arith, c.if-digits-half.true, c.read_wide-digits.ensures.number, c.half_of-half.ensures)))

else_few : (c : Else-digits-half) → c.half_of-half.result ≤ 2 ^ 127
else_few c =
    let few : c.args.span.count - 1 ≤ 127 = omega (arith, c.requires.few) in
    let up : 2 ^ (c.args.span.count - 1) ≤ 2 ^ 127 = pow_mono few in
    omega (arith, up, c.half_of-half.ensures)

pub below_minus_one-requires : goal.below_minus_one-requires
below_minus_one-requires c =
    let some : 1 ≤ 2 ^ (c.args.span.count - 1) = pow_mono {i = 0} (omega arith) in
    omega (arith, some, else_few c, c.half_of-half.ensures)

pub returns : goal.returns
returns c =
    let list = bits c.args.octets.now in
    let w = c.args.span.count - 1 in
    let half = c.half_of-half.result in
    let d = half - 1 - (c.read_wide-digits.result - half) in
    let e : suc w ≡ c.args.span.count = omega (arith, c.requires.some) in
    let size = front_length list c.args.span.at c.args.span.count
    (omega (arith, c.requires.inside, length-bits c.args.octets.now)) in
    let few : w ≤ 127 = omega (arith, c.requires.few) in
    let up : 2 ^ w ≤ 2 ^ 127 = pow_mono few in
    let none : 0 ≤ w = omega arith in
    let some : 2 ^ 0 ≤ 2 ^ w = pow_mono none in
    ap (λ z. to_z w128 (of_z w128 z)) c.below_minus_one.ensures
    ∙ to_z-of_z w128 (negsuc d) (record { sfits = omega (arith, up, some, c.half_of-half.ensures) })
    ∙ ap (λ n. negsuc n) (omega (arith, c.half_of-half.ensures, c.read_wide-digits.ensures.number))
    ∙ sym (is_negative (bits_of list c.args.span) w (size ∙ sym e)
    (omega (arith, c.if-digits-half.false, c.read_wide-digits.ensures.number, c.half_of-half.ensures)))

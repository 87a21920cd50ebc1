use Rattle.std.proofs.Common.{◌≡◌, ℕ, ◌+◌, ◌-◌, ◌*◌, ◌/◌, ◌%◌, ◌^◌, ap, ◌∙◌, arith}
use Rattle.asn1_bits.specs.Bits.{bits, digits, ored}
use Rattle.asn1_bits.specs.Laws.DigitLaws.{length-bits}
use Rattle.asn1_bits.proofs.WindowLemmas.{or-near, moved-past}
use Rattle.asn1_bits.proofs.target.stores.or_front_of.Goals as goal

pub returns : goal.returns
returns c =
    let old = bits c.args.dst.now in
    let place = c.args.position in
    let width = c.args.width in
    let shift = place % 8 in
    let past = shift + width - 64 in
    let same : (64 - width) % 64 ≡ 64 - width = omega (arith, c.requires.some, c.requires.width) in
    or-near 8 old (bits c.or_octets.new.dst) place (c.args.word / 2 ^ past) (width - past)
    (omega (arith, c.requires.some, c.requires.width)) (omega arith) (omega (arith, length-bits c.args.dst.now))
    (c.or_octets.ensures
    ∙ ap (λ (k : ℕ). ored old (8 * (place / 8)) (digits (c.args.word * 2 ^ k % 2 ^ 64 / 2 ^ shift) 64)) same
    ∙ ap (λ (n : ℕ). ored old (8 * (place / 8)) (digits n 64))
    (moved-past c.args.word width shift (omega arith) c.requires.some c.requires.width))

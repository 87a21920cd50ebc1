use Rattle.std.proofs.Common.{◌≡◌, ℕ, ◌+◌, ◌*◌, ◌/◌, ◌<◌, ◌≤◌, List, length, drop, sym, ◌∙◌, ap, subst, arith}
use Rattle.std.specs.Prelude.{All}
use Rattle.std.specs.Bool.{Decides}
use Rattle.asn1_bits.specs.Bits.{bits}
use Rattle.asn1_bits.specs.Laws.DigitLaws.{length-bits}
use Rattle.asn1_schema.specs.CharactersOfParts.{numbers_in}
use Rattle.asn1_schema.specs.PiecesOfParts.{bits_of}
use Rattle.asn1_schema.specs.Times.{IsTime}
use Rattle.asn1_x691_fields.specs.ContentSteps.{same_span}
use Rattle.asn1_x691_fields.proofs.times.is_time_at.Goals as goal

-- `count` octets are inside
octets_inside : (at width count size : ℕ) → width ≡ 8 → at + width * count ≤ size → at + 8 * count ≤ size
octets_inside at width count size e h = subst (λ (w : ℕ). at + w * count ≤ size) e h

-- the octets are the numbers of eight bits
are_numbers : (octets : List ℕ) (at width count : ℕ) → width ≡ 8 → at + width * count ≤ 8 * length octets → (own : List ℕ)
    → All (λ octet. octet < 256) own → bits own ≡ bits_of (bits octets) (record { at = at; count = 8 * count })
    → own ≡ numbers_in width count (drop at (bits octets))
are_numbers octets at width count eight h own below e =
    let list = bits octets in
    let n : 8 * count / 8 ≡ count = omega arith in
    let inside = octets_inside at width count (8 * length octets) eight h in
    sym (same_span list (record { at = at; count = 8 * count }) (omega (arith, inside, length-bits octets)) (omega arith) own below (sym e))
    ∙ ap (λ (k : ℕ). numbers_in 8 k (drop at list)) n
    ∙ ap (λ (k : ℕ). numbers_in k count (drop at list)) (sym eight)

pub overflow_mul-span : goal.overflow_mul-span
overflow_mul-span c =
    let a = c.args in
    let h = octets_inside a.at a.width a.count (8 * length a.message.now) c.if-width-eq8.true c.requires.inside in
    omega (arith, h, c.requires.size)

pub returns-in-Some : goal.returns-in-Some
returns-in-Some c =
    let a = c.args in
    let k = c.in-Some in
    subst (λ (l : List ℕ). Decides c.is_time.result (IsTime a.kind l))
    (are_numbers a.message.now a.at a.width a.count c.if-width-eq8.true c.requires.inside k.own.now k.ensures.octets k.ensures.bits)
    c.is_time.ensures

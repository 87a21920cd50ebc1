use Rattle.std.proofs.Common.{◌<◌, ◌+◌, ◌*◌, ◌^◌, ◌∷◌, ◌++◌, ℕ, List, [], drop, sym, ◌∙◌, ap, arith}
use Rattle.std.proofs.lemmas.List.{take_more_set}
use Rattle.asn1_bits.specs.Bits.{bits}
use Rattle.asn1_bits.specs.Laws.DigitLaws.{length-bits}
use Rattle.asn1_schema.specs.CharactersOfParts.{numbers_in}
use Rattle.asn1_x691_fields.specs.Steps.{number_below}
use Rattle.asn1_x691_fields.specs.Utf8Steps.{one_more_octet}
use Rattle.asn1_x691_fields.proofs.utf8_texts.copy_octets.Goals as goal

pub overflow_cast-octets : goal.overflow_cast-octets
overflow_cast-octets c =
    let list = bits c.args.message.now in
    let at = c.args.at + 8 * c.loop-i.i in
    let h : c.number_at.result < 2 ^ 8 =
    number_below list at 8 c.number_at.result (omega (arith, c.requires.inside, c.loop-i-test.true, length-bits c.args.message.now))
    c.number_at.ensures in
    omega (arith, h)

pub loop-i-preserved : goal.loop-i-preserved
loop-i-preserved c =
    let list = bits c.args.message.now in
    let i = c.loop-i.i in
    take_more_set c.loop-i.octets i c.number_at.result (omega (arith, c.loop-i-test.true))
    ∙ ap (λ (l : List ℕ). l ++ c.number_at.result ∷ []) c.loop-i.invariant
    ∙ ap (λ (n : ℕ). numbers_in 8 i (drop c.args.at list) ++ n ∷ []) c.number_at.ensures
    ∙ sym (one_more_octet i c.args.at list)

use Rattle.std.proofs.Common.{arith, ◌≡◌, ℕ, ◌*◌, ◌+◌, ◌^◌, take, drop, ap, ◌∙◌}
use Rattle.std.specs.Int.{cast_signed, w128}
use Rattle.asn1_number.specs.Octets.{unsigned}
use Rattle.asn1_number.specs.Laws.OctetLaws.{octets_from_places}
use Rattle.asn1_number.proofs.WordLemmas.{sixteen_by_halves}
use Rattle.asn1_number.proofs.values.words_of_octets.Goals as goal

pub returns-in-16 : goal.returns-in-16
returns-in-16 c =
    let o = c.args.octets.now in
    let h = octets_from_places o (λ i. omega (arith, c.type_inv.octets i)) in
    let a : c.word_of_eight-in-16.result ≡ unsigned (take 8 o) =
    c.word_of_eight-in-16.ensures.value ∙ ap unsigned c.split_at.ensures.front in
    let b : c.word_of_eight-in-16-2.result ≡ unsigned (drop 8 o) =
    c.word_of_eight-in-16-2.ensures.value ∙ ap unsigned c.split_at.ensures.back in
    ap (λ (k : ℕ). cast_signed w128 (k * 2 ^ 64 + c.word_of_eight-in-16-2.result)) a
    ∙ (ap (λ (k : ℕ). cast_signed w128 (unsigned (take 8 o) * 2 ^ 64 + k)) b
    ∙ sixteen_by_halves o h (omega (arith, c.in-16.is)))

use Rattle.std.proofs.Common.{arith, ◌≡◌, take, sym, ap, ◌∙◌}
use Rattle.std.specs.Int.{cast_signed, w64}
use Rattle.std.specs.Ordering.{int_cmp}
use Rattle.asn1_number.specs.Octets.{signed}
use Rattle.asn1_number.specs.Laws.OctetLaws.{nine_bits_from_shortest}
use Rattle.asn1_number.specs.Laws.OctetOrderLaws.{octets_order}
use Rattle.asn1_number.proofs.WordLemmas.{order_by_first, biased_order, same_word}
use Rattle.asn1_number.proofs.order.octets_keys.Goals as goal

pub returns-then-first-other : goal.returns-then-first-other
returns-then-first-other c =
    let a = c.args.a.now in
    let b = c.args.b.now in
    let s = c.requires.a_shortest in
    let t = c.requires.b_shortest in
    let m : cast_signed w64 c.word_of_eight-first.result ≡ signed (take 8 a) = c.word_of_eight-first.ensures.signed in
    let n : cast_signed w64 c.word_of_eight-other.result ≡ signed (take 8 b) = c.word_of_eight-other.ensures.signed in
    biased_order c.word_of_eight-first.result c.word_of_eight-other.result c.word_of_eight-first.type_inv
    c.word_of_eight-other.type_inv
    ∙ (ap (λ z. int_cmp z (cast_signed w64 c.word_of_eight-other.result)) m
    ∙ (ap (int_cmp (signed (take 8 a))) n
    ∙ (order_by_first 8 a b s.octets t.octets (omega arith) (omega (arith, c.requires.many)) c.if-a-b.true
    (λ e. c.if-first-other.true
    (same_word _ _ c.word_of_eight-first.type_inv c.word_of_eight-other.type_inv (m ∙ (e ∙ sym n))))
    ∙ sym (octets_order a b s.octets t.octets (nine_bits_from_shortest (signed a) a s)
    (nine_bits_from_shortest (signed b) b t)))))

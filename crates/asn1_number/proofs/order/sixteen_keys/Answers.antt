use Rattle.std.proofs.Common.{arith, ◌≡◌, take, drop, sym, ap, ◌∙◌}
use Rattle.std.specs.Int.{cast_signed, w64}
use Rattle.std.specs.Ordering.{int_cmp, nat_cmp}
use Rattle.asn1_number.specs.Octets.{signed, unsigned}
use Rattle.asn1_number.specs.Laws.OctetLaws.{octets_from_places}
use Rattle.asn1_number.proofs.WordLemmas.{order_by_first, order_by_last, biased_order, same_word}
use Rattle.asn1_number.proofs.order.sixteen_keys.Goals as goal

pub returns-then-first-other : goal.returns-then-first-other
returns-then-first-other c =
    let a = c.args.a.now in
    let b = c.args.b.now in
    let x = octets_from_places a (λ i. omega (arith, c.type_inv.a i)) in
    let y = octets_from_places b (λ i. omega (arith, c.type_inv.b i)) in
    let m : cast_signed w64 c.word_of_eight-first.result ≡ signed (take 8 a) =
    c.word_of_eight-first.ensures.signed ∙ ap signed c.split_at.ensures.front in
    let n : cast_signed w64 c.word_of_eight-other.result ≡ signed (take 8 b) =
    c.word_of_eight-other.ensures.signed ∙ ap signed c.split_at-2.ensures.front in
    biased_order c.word_of_eight-first.result c.word_of_eight-other.result c.word_of_eight-first.type_inv
    c.word_of_eight-other.type_inv
    ∙ (ap (λ z. int_cmp z (cast_signed w64 c.word_of_eight-other.result)) m
    ∙ (ap (int_cmp (signed (take 8 a))) n
    ∙ order_by_first 8 a b x y (omega arith) (omega (arith, c.requires.0)) (c.requires.0 ∙ sym c.requires.1)
    (λ e. c.if-first-other.true
    (same_word _ _ c.word_of_eight-first.type_inv c.word_of_eight-other.type_inv (m ∙ (e ∙ sym n))))))

pub returns : goal.returns
returns c =
    let a = c.args.a.now in
    let b = c.args.b.now in
    let x = octets_from_places a (λ i. omega (arith, c.type_inv.a i)) in
    let y = octets_from_places b (λ i. omega (arith, c.type_inv.b i)) in
    let m : cast_signed w64 c.word_of_eight-first.result ≡ signed (take 8 a) =
    c.word_of_eight-first.ensures.signed ∙ ap signed c.split_at.ensures.front in
    let n : cast_signed w64 c.word_of_eight-other.result ≡ signed (take 8 b) =
    c.word_of_eight-other.ensures.signed ∙ ap signed c.split_at-2.ensures.front in
    let e : signed (take 8 a) ≡ signed (take 8 b) = sym m ∙ (ap (cast_signed w64) c.if-first-other.false ∙ n) in
    ap (λ k. nat_cmp k c.word_of_eight-2.result) (c.word_of_eight.ensures.value ∙ ap unsigned c.split_at.ensures.back)
    ∙ (ap (nat_cmp (unsigned (drop 8 a))) (c.word_of_eight-2.ensures.value ∙ ap unsigned c.split_at-2.ensures.back)
    ∙ order_by_last a b x y c.requires.0 c.requires.1 e)

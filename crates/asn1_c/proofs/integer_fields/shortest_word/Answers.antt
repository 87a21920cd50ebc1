use Rattle.std.proofs.Common.{◌∙◌, ℤ, length, subst, ap, arith}
use Rattle.asn1_number.specs.Octets.{IsShortest}
use Rattle.asn1_number.specs.Laws.OctetLaws.{shortest_once}
use Rattle.asn1_c.proofs.IntegerFieldLemmas.{sixteen_at_most, word_back, bits_of_shortest}
use Rattle.asn1_c.proofs.integer_fields.shortest_word.Goals as goal

pub overflow_mul-count : goal.overflow_mul-count
overflow_mul-count c =
    let o = c.to_signed_bytes_be-octets.ensures in
    let few = sixteen_at_most _ _ o.shortest o.in_range in
    omega arith

pub read_wide-requires-clause-width : goal.read_wide-requires-clause-width
read_wide-requires-clause-width c =
    let o = c.to_signed_bytes_be-octets.ensures in
    let few = sixteen_at_most _ _ o.shortest o.in_range in
    omega arith

pub returns-clause-word : goal.returns-clause-word
returns-clause-word c = λ o s.
    let made = c.to_signed_bytes_be-octets.ensures in
    let back = word_back c.args.word c.cast_signed-number.result (omega arith) c.cast_signed-number.ensures in
    bits_of_shortest _ o c.to_signed_bytes_be-octets.result c.as_ref.result.now c.len-count.result c.read_wide.result s
    (subst (λ (z : ℤ). IsShortest z c.to_signed_bytes_be-octets.result) back made.shortest) c.as_ref.ensures
    c.len-count.ensures c.read_wide.ensures.digits

pub returns-clause-count : goal.returns-clause-count
returns-clause-count c = λ o s.
    let made = c.to_signed_bytes_be-octets.ensures in
    let back = word_back c.args.word c.cast_signed-number.result (omega arith) c.cast_signed-number.ensures in
    c.len-count.ensures
    ∙ ap length (shortest_once _ c.to_signed_bytes_be-octets.result o
    (subst (λ (z : ℤ). IsShortest z c.to_signed_bytes_be-octets.result) back made.shortest) s)

pub returns-clause-few : goal.returns-clause-few
returns-clause-few c =
    let o = c.to_signed_bytes_be-octets.ensures in
    let few = sixteen_at_most _ _ o.shortest o.in_range in
    omega arith

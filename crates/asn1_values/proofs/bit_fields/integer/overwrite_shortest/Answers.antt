use Rattle.std.proofs.Common.{ℕ, ℤ, Bool, List, ◌≡◌, ◌*◌, ap, subst, ◌∙◌, arith, to_z-of_z}
use Rattle.std.specs.Int.{w128}
use mir.Val.{SFits, of_z, to_z}
use Rattle.asn1_bits.specs.Bits.{bits, digits}
use Rattle.asn1_number.specs.Laws.LawsHold.{one_shortest_list}
use Rattle.asn1_number.specs.Laws.WidthLaws.{sixteen_fit}
use Rattle.asn1_integer.specs.Laws.WordLaws.{sixteen_at_most, lowest_octets}
use Rattle.asn1_values.specs.Steps.{WritesOver}
use Rattle.asn1_values.specs.Laws.SpellingLaws.{same_shortest}
use Rattle.asn1_values.proofs.bit_fields.integer.overwrite_shortest.Goals as goal

pub overflow_mul-signed_len : goal.overflow_mul-signed_len
overflow_mul-signed_len c =
    let one = one_shortest_list c.args.number.now in
    omega (arith, c.signed_len.ensures one.0 one.1, sixteen_at_most c.args.number.now one.0 c.in-Some.ensures.0 one.1)

pub overwrite_digits-requires : goal.overwrite_digits-requires
overwrite_digits-requires c =
    let one = one_shortest_list c.args.number.now in
    let r = c.requires one.0 one.1 in
    let n = c.signed_len.ensures one.0 one.1 in
    record {
      few = omega (arith, n, sixteen_at_most c.args.number.now one.0 c.in-Some.ensures.0 one.1);
      within = (omega (arith, n, r.0), omega (arith, n, r.1));
    }

pub returns-in-Some : goal.returns-in-Some
returns-in-Some c = λ octets s.
    let n = c.args.number.now in
    let few = sixteen_at_most n octets c.in-Some.ensures.0 s in
    let fit : SFits w128 n = subst (SFits w128) s.value (sixteen_fit octets s.octets s.some few) in
    let word = c.cast_unsigned-word.ensures
    ∙ ap (λ (z : ℤ). of_z w128 (to_z w128 (of_z w128 z))) c.in-Some.ensures.1
    ∙ ap (of_z w128) (to_z-of_z fit) in
    let same : digits c.cast_unsigned-word.result (8 * c.signed_len.result) ≡ bits octets =
    ap (λ (k : ℕ). digits k (8 * c.signed_len.result)) word
    ∙ ap (λ (k : ℕ). digits (of_z w128 n) (8 * k)) (c.signed_len.ensures octets s)
    ∙ lowest_octets n octets s.octets s.value s.some few in
    subst (λ (l : List Bool). WritesOver l c.args.position (bits c.args.target.now) (bits c.overwrite_digits.new.target)
    c.overwrite_digits.result) same c.overwrite_digits.ensures

pub returns-in-None : goal.returns-in-None
returns-in-None c = λ octets s.
    let same = same_shortest c.args.number.now c.signed_octets.result octets c.signed_octets.ensures s in
    subst (λ (l : List ℕ). WritesOver (bits l) c.args.position (bits c.args.target.now)
    (bits c.overwrite_octets.new.target) c.overwrite_octets.result)
    (c.as_ref.ensures ∙ same) c.overwrite_octets.ensures

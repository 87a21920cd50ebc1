use Rattle.std.proofs.Common.{ℕ, ℤ, Bool, List, ◌*◌, ◌++◌, length, ap, subst, ◌∙◌, arith, to_z-of_z}
use Rattle.std.specs.Int.{w128}
use mir.Val.{SFits, of_z, to_z}
use Rattle.asn1_bits.specs.Bits.{bits, digits}
use Rattle.asn1_bits.specs.BitAppender.{bits_written}
use Rattle.asn1_bits.specs.Laws.DigitLaws.{length-bits}
use Rattle.asn1_number.specs.Laws.LawsHold.{one_shortest_list}
use Rattle.asn1_number.specs.Laws.WidthLaws.{sixteen_fit}
use Rattle.asn1_integer.specs.Laws.WordLaws.{sixteen_at_most, lowest_octets}
use Rattle.asn1_values.proofs.SpellingLemmas.{list_pushed}
use Rattle.asn1_values.proofs.bit_fields.integer.push_shortest.Goals as goal

pub overflow_mul-signed_len : goal.overflow_mul-signed_len
overflow_mul-signed_len c =
    let one = one_shortest_list c.args.number.now in
    omega (arith, c.signed_len.ensures one.0 one.1, sixteen_at_most c.args.number.now one.0 c.in-Some.ensures.0 one.1)

pub push_wide-requires-clause-width : goal.push_wide-requires-clause-width
push_wide-requires-clause-width c =
    let one = one_shortest_list c.args.number.now in
    omega (arith, c.signed_len.ensures one.0 one.1, sixteen_at_most c.args.number.now one.0 c.in-Some.ensures.0 one.1)

pub push_wide-requires-clause-room : goal.push_wide-requires-clause-room
push_wide-requires-clause-room c =
    let one = one_shortest_list c.args.number.now in
    omega (arith, c.signed_len.ensures one.0 one.1, c.requires one.0 one.1)

pub returns-in-Some : goal.returns-in-Some
returns-in-Some c = λ octets s.
    let n = c.args.number.now in
    let few = sixteen_at_most n octets c.in-Some.ensures.0 s in
    let fit : SFits w128 n = subst (SFits w128) s.value (sixteen_fit octets s.octets s.some few) in
    let word = c.cast_unsigned.ensures ∙ ap (λ (z : ℤ). of_z w128 (to_z w128 (of_z w128 z))) c.in-Some.ensures.1
    ∙ ap (of_z w128) (to_z-of_z fit) in
    let written = c.push_wide.ensures.written
    ∙ ap (λ (l : List Bool). bits_written c.args.appender.now ++ l)
    (ap (λ (k : ℕ). digits k (8 * c.signed_len.result)) word
    ∙ ap (λ (k : ℕ). digits (of_z w128 n) (8 * k)) (c.signed_len.ensures octets s)
    ∙ lowest_octets n octets s.octets s.value s.some few) in
    let len = c.signed_len.ensures octets s in
    let p = c.push_wide.ensures in
    list_pushed (bits octets) (8 * length octets) c.args.appender.now c.push_wide.new.self c.args.turns.now.count
    c.push_wide.new.turns.count (length-bits octets) p.lender written (rw len at p.room) p.each_turn_places (rw len at p.at_least)
    (rw len at p.at_most)

use Rattle.std.proofs.Common.{rules, arith, ◌≡◌, ◌+◌, ◌/◌, ◌^◌, ◌≤◌, drop, length, sym, ap, subst, ◌∙◌, ⊎_elim, of_z, to_z, to_z-of_z, SFits}
use Rattle.std.proofs.lemmas.Bool.{cases_lt}
use lib.Signed.{mag}
use Rattle.std.proofs.Math.Seq.{drop-append-add}
use Rattle.std.specs.Int.{to_be_bytes, w64, w128}
use Rattle.asn1_number.specs.Shortest.{shortest_octets}
use Rattle.asn1_number.proofs.SpellingLemmas.{two_words, end_of_word, length_past_word, residue_64, residue_128}
use Rattle.asn1_number.proofs.values.shortest_in_words.Goals as goal

pub returns-in-Ok-clause-count : goal.returns-in-Ok-clause-count
returns-in-Ok-clause-count c =
    let fits : SFits w64 c.in-Ok.short = search rules in
    let same = to_z-of_z fits ∙ (c.in-Ok.ensures.1 ∙ to_z-of_z c.ranges.number) in
    omega (arith, c.spare_of_eight.ensures, ap (λ n. length (shortest_octets n)) same)

pub returns-in-Ok-clause-octets : goal.returns-in-Ok-clause-octets
returns-in-Ok-clause-octets c =
    let bits : c.cast_unsigned.result ≡ of_z w64 c.args.number = search rules in
    let whole = returns-in-Ok-clause-count c in
    let count : c.spare_of_eight.result + length (shortest_octets c.args.number) ≡ 8 = omega arith in
    drop-append-add (to_be_bytes w64 0) (to_be_bytes w64 c.cast_unsigned.result) c.spare_of_eight.result
    ∙ end_of_word 8 c.spare_of_eight.result c.cast_unsigned.result c.args.number count (bits ∙ residue_64 c.args.number)

pub returns-in-Err-clause-count : goal.returns-in-Err-clause-count
returns-in-Err-clause-count c =
    let z = to_z-of_z c.ranges.number in
    let long : 2 ^ 63 ≤ mag c.args.number =
    ⊎_elim (λ l. absurd (c.in-Err.ensures (subst (λ x. SFits w64 x) (sym z) (record { sfits = l })))) (λ l. l)
    (cases_lt (mag c.args.number) (2 ^ 63)) in
    let fits : SFits w64 c.cast_signed.result = search rules in
    let high : to_z w64 (of_z w64 c.cast_signed.result) ≡ to_z w64 (of_z w128 c.args.number / 2 ^ 64) =
    to_z-of_z fits ∙ (c.cast_signed.ensures
    ∙ ap (λ b. to_z w64 (b / 2 ^ 64)) (c.cast_unsigned-bits.ensures ∙ ap (of_z w128) z)) in
    omega (
      arith,
      c.spare_of_eight-spare.ensures,
      ap (λ x. length (shortest_octets x)) high,
      length_past_word c.args.number c.ranges.number long,
    )

pub returns-in-Err-clause-octets : goal.returns-in-Err-clause-octets
returns-in-Err-clause-octets c =
    let bits : c.cast_unsigned-bits.result ≡ of_z w128 c.args.number = c.cast_unsigned-bits.ensures
    ∙ ap (of_z w128) (to_z-of_z c.ranges.number) in
    let count : c.spare_of_eight-spare.result + length (shortest_octets c.args.number) ≡ 16 =
    returns-in-Err-clause-count c in
    ap (drop c.spare_of_eight-spare.result) (two_words c.cast_unsigned-bits.result)
    ∙ end_of_word 16 c.spare_of_eight-spare.result c.cast_unsigned-bits.result c.args.number count
    (bits ∙ residue_128 c.args.number)

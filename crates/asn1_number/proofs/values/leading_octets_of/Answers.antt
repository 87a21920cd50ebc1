use Rattle.std.proofs.Common.{rules, arith, ◌≡◌, ◌/◌, ◌^◌, ◌≤◌, length, sym, ap, subst, ◌∙◌, ⊎_elim, of_z, to_z, to_z-of_z, SFits}
use Rattle.std.proofs.lemmas.Bool.{cases_lt}
use lib.Signed.{mag}
use Rattle.std.specs.Int.{w64, w128}
use Rattle.asn1_number.specs.Shortest.{shortest_octets}
use Rattle.asn1_number.proofs.SpellingLemmas.{length_past_word}
use Rattle.asn1_number.proofs.values.leading_octets_of.Goals as goal

pub returns-in-Err : goal.returns-in-Err
returns-in-Err c =
    let z = to_z-of_z c.ranges.number in
    let long : 2 ^ 63 ≤ mag c.args.number =
    ⊎_elim (λ l. absurd (c.in-Err.ensures (subst (λ x. SFits w64 x) (sym z) (record { sfits = l })))) (λ l. l)
    (cases_lt (mag c.args.number) (2 ^ 63)) in
    let fits : SFits w64 c.cast_signed.result = search rules in
    let high : to_z w64 (of_z w64 c.cast_signed.result) ≡ to_z w64 (of_z w128 c.args.number / 2 ^ 64) =
    to_z-of_z fits ∙ (c.cast_signed.ensures
    ∙ ap (λ b. to_z w64 (b / 2 ^ 64)) (c.cast_unsigned.ensures ∙ ap (of_z w128) z)) in
    omega (
      arith,
      c.spare_of_eight-in-Err.ensures,
      ap (λ x. length (shortest_octets x)) high,
      length_past_word c.args.number c.ranges.number long,
    )

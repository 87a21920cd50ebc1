use Rattle.std.proofs.Common.{rules, arith, ◌≡◌, ℕ, length, take, sym, ap, ◌∙◌, to_z, of_z, to_z-of_z}
use Rattle.std.proofs.Math.Seq.{take-length}
use Rattle.std.specs.Int.{w64}
use Rattle.asn1_number.specs.Octets.{signed}
use Rattle.asn1_number.specs.Laws.OctetLaws.{octets_from_places}
use Rattle.asn1_number.specs.Laws.WidthLaws.{first_value, more_value}
use Rattle.asn1_number.proofs.WordLemmas.{two_fit}
use Rattle.asn1_number.proofs.values.signed_of_two.Goals as goal

pub returns-then-octets-eq1 : goal.returns-then-octets-eq1
returns-then-octets-eq1 c =
    let o = c.args.octets.now in
    let h = octets_from_places o (λ i. omega (arith, c.type_inv.octets i)) in
    let all : take 1 o ≡ o = ap (λ (k : ℕ). take k o) (sym c.if-octets-eq1.true) ∙ take-length o in
    let e =
    first_value o c.cast_signed.result c.from-first.result h c.requires.some c.cast_signed.ensures (search rules)
    c.from-first.ensures (search rules) ∙ ap signed all in
    ap (λ z. to_z w64 (of_z w64 z)) e ∙ to_z-of_z (two_fit o h c.requires.some c.requires.few)

pub returns : goal.returns
returns c =
    let o = c.args.octets.now in
    let h = octets_from_places o (λ i. omega (arith, c.type_inv.octets i)) in
    let two : length o ≡ 2 = omega (arith, c.requires.some, c.requires.few, c.if-octets-eq1.false) in
    let first =
    first_value o c.cast_signed.result c.from-first.result h c.requires.some c.cast_signed.ensures (search rules)
    c.from-first.ensures (search rules) in
    let all : take 2 o ≡ o = ap (λ (k : ℕ). take k o) (sym two) ∙ take-length o in
    let e =
    more_value o 0 _ c.from.result _ h (omega (arith, two)) (omega (arith, two)) first c.from.ensures (search rules)
    ∙ ap signed all in
    ap (λ z. to_z w64 (of_z w64 z)) e ∙ to_z-of_z (two_fit o h c.requires.some c.requires.few)

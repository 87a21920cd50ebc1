use Rattle.std.proofs.Common.{◌≡◌, ℕ, ◌+◌, ◌-◌, ◌∷◌, false, drop, sym, ◌∙◌, ap, arith, inl, inr}
use Rattle.asn1_bits.specs.Bits.{bits}
use Rattle.asn1_schema.specs.CharactersOfParts.{numbers_in}
use Rattle.asn1_x691_fields.specs.Octets.{are_series}
use Rattle.asn1_x691_fields.specs.ContentSteps.{first_octet, octet_passes}
use Rattle.asn1_x691_fields.proofs.contents.are_series.Goals as goal

pub loop-left-preserved : goal.loop-left-preserved
loop-left-preserved c =
    let list = bits c.args.message.now in
    let l = c.loop-left in
    let octet = c.number_at-octet.result in
    let others = numbers_in 8 (l.left - 1) (drop (l.at + 8) list) in
    let first : l.begun ≡ false → octet ≡ 128 → ⊥ = elim c.else-not-begun.either [
      | inl p ↦ λ e. p.1
      | inr t ↦ λ e f. absurd cc
    ] in
    record {
      same = l.invariant.same
          ∙ ap (are_series l.begun) (first_octet l.left (l.left - 1) l.at list (omega (arith, c.loop-left-test.true)))
          ∙ ap (λ (n : ℕ). are_series l.begun (n ∷ others)) (sym c.number_at-octet.ensures)
          ∙ octet_passes l.begun octet others first;
      place = omega (arith, l.invariant.place, c.loop-left-test.true);
    }

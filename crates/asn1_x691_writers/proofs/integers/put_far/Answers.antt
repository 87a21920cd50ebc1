use Rattle.std.proofs.Common.{◌≡◌, [], sym, ap, ◌∙◌, subst, inl, inr, arith}
use Rattle.std.proofs.lemmas.Bool.{cases_lt}
use Rattle.asn1_bits.specs.Bits.{bits}
use Rattle.asn1_bits.specs.Laws.DigitLaws.{length-bits}
use Rattle.asn1_schema.specs.Pieces.{Piece, Integer}
use Rattle.asn1_schema.specs.PiecesOfParts.{bits_of, signed_number}
use Rattle.asn1_x691.specs.Leaves.{integer}
use Rattle.asn1_x691_fields.specs.Numbers.{distance}
use Rattle.asn1_x691_fields.specs.Steps.{front_length}
use Rattle.asn1_x691_writers.specs.Put.{IsPut, piece_in}
use Rattle.asn1_x691_writers.specs.FarSteps.{few_bits}
use Rattle.asn1_x691_writers.proofs.integers.put_far.Goals as goal

pub put_far_span-requires-clause-some : goal.put_far_span-requires-clause-some
put_far_span-requires-clause-some c =
    let source = bits c.args.source.now in
    let digits = c.strip_signs-digits.result in
    let far = c.requires.far [] in
    let e : Integer (far.0) ≡ Integer (signed_number (bits_of source c.in-Signed.span)) = sym far.1 ∙ ap (piece_in [] c.args.source.now) c.in-Signed.is in
    let f : far.0 ≡ signed_number (bits_of source c.in-Signed.span) = cc in
    let g : far.0 ≡ signed_number (bits_of source c.strip_signs-digits.result) =
    f ∙ ap signed_number (sym c.clip.ensures.same) ∙ sym c.strip_signs-digits.ensures.same in
    let size = front_length source digits.at digits.count (omega (arith, c.strip_signs-digits.ensures.inside, length-bits c.args.source.now)) in
    elim (cases_lt 1 c.strip_signs-digits.result.count) [
      | inl lt ↦ lt
      | inr le ↦ absurd (
          let none = ap distance g ∙ few_bits (bits_of source digits) (omega (arith, le, size)) in
          omega (arith, none, far.2)
          )
    ]

pub put_far_span-requires-clause-first : goal.put_far_span-requires-clause-first
put_far_span-requires-clause-first c = c.strip_signs-digits.ensures.first (put_far_span-requires-clause-some c)

pub returns-in-Signed : goal.returns-in-Signed
returns-in-Signed c ranges =
    let e = ap (piece_in ranges c.args.source.now) c.in-Signed.is
    ∙ ap Integer (ap signed_number (sym c.clip.ensures.same) ∙ sym c.strip_signs-digits.ensures.same) in
    subst
    (λ (p : Piece). IsPut c.args.is_aligned (integer c.args.is_aligned c.args.node) p c.args.octets.now c.args.state.now
    c.put_far_span.new.octets c.put_far_span.new.state c.put_far_span.result) (sym e) c.put_far_span.ensures

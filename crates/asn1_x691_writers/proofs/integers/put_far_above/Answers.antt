use Rattle.std.proofs.Common.{◌≡◌, ℕ, ℤ, pos, [], sym, ap, ◌∙◌, subst, inl, inr, rules, arith, SFits}
use Rattle.std.specs.Int.{w128}
use Rattle.std.specs.Prelude.{◌+ℤ◌}
use Rattle.std.proofs.lemmas.Bool.{cases_lt}
use Rattle.std.proofs.lemmas.Int.{to_z-of_z}
use Rattle.asn1_bits.specs.Bits.{bits, number}
use Rattle.asn1_bits.specs.Laws.NumberLaws.{number-nil}
use Rattle.asn1_schema.specs.Pieces.{Piece, Integer}
use Rattle.asn1_schema.specs.PiecesOfParts.{bits_at, bits_of}
use Rattle.asn1_x691.specs.Leaves.{integer_at_least}
use Rattle.asn1_x691_writers.specs.Put.{IsPut, piece_in}
use Rattle.asn1_x691_writers.proofs.HeldLemmas.{not_far}
use Rattle.asn1_x691_writers.proofs.integers.put_far_above.Goals as goal

pub put_above_span-requires-clause-some : goal.put_above_span-requires-clause-some
put_above_span-requires-clause-some c =
    let source = bits c.args.source.now in
    let digits = c.strip_zeros-digits.result in
    let far = c.requires.far [] in
    let least : ℤ = c.in-Above.least in
    let fits : SFits w128 c.in-Above.least = search rules in
    let n = number (bits_at source c.in-Above.at c.in-Above.count) in
    let e : Integer (far.0) ≡ Integer (least +ℤ pos n) = sym far.1 ∙ ap (piece_in [] c.args.source.now) c.in-Above.is in
    let f : far.0 ≡ (least +ℤ pos n) = cc in
    let same = c.strip_zeros-digits.ensures.same ∙ ap number c.clip.ensures.same in
    elim (cases_lt 0 c.strip_zeros-digits.result.count) [
      | inl lt ↦ lt
      | inr le ↦ absurd (
          let zero : c.strip_zeros-digits.result.count ≡ 0 = omega (arith, le) in
          let none : number (bits_of source c.strip_zeros-digits.result) ≡ 0 =
          ap (λ (k : ℕ). number (bits_at source c.strip_zeros-digits.result.at k)) zero ∙ number-nil in
          not_far least far.0 n f (sym same ∙ none) fits far.2
          )
    ]

pub put_above_span-requires-clause-first : goal.put_above_span-requires-clause-first
put_above_span-requires-clause-first c = c.strip_zeros-digits.ensures.first (put_above_span-requires-clause-some c)

pub returns-else-least-bound : goal.returns-else-least-bound
returns-else-least-bound c ranges =
    let source = bits c.args.source.now in
    let fits : SFits w128 c.in-Above.least = search rules in
    let same : c.in-Above.least ≡ c.args.bound.least = search rules in
    let is = to_z-of_z w128 c.in-Above.least fits in
    let number_is = c.strip_zeros-digits.ensures.same ∙ ap number c.clip.ensures.same in
    let e : Integer (c.in-Above.least +ℤ pos (number (bits_of source c.strip_zeros-digits.result))) ≡ piece_in ranges c.args.source.now c.args.part =
    ap (λ (k : ℕ). Integer (c.in-Above.least +ℤ pos k)) number_is ∙ sym (ap (piece_in ranges c.args.source.now) c.in-Above.is) in
    subst
    (λ (z : ℤ). IsPut c.args.is_aligned (integer_at_least c.args.is_aligned c.args.node z) (piece_in ranges c.args.source.now c.args.part)
    c.args.octets.now c.args.state.now c.put_above_span.new.octets c.put_above_span.new.state c.put_above_span.result) same
    (subst
    (λ (p : Piece). IsPut c.args.is_aligned (integer_at_least c.args.is_aligned c.args.node c.in-Above.least) p c.args.octets.now
    c.args.state.now c.put_above_span.new.octets c.put_above_span.new.state c.put_above_span.result) e
    (subst
    (λ (z : ℤ). IsPut c.args.is_aligned (integer_at_least c.args.is_aligned c.args.node z)
    (Integer (z +ℤ pos (number (bits_of source c.strip_zeros-digits.result)))) c.args.octets.now c.args.state.now
    c.put_above_span.new.octets c.put_above_span.new.state c.put_above_span.result) is c.put_above_span.ensures))

use Rattle.std.proofs.Common.{◌≡◌, ℕ, ◌-◌, ◌+◌, ◌^◌, ◌<◌, eq-eqb, inl, inr, length, get_or, ◌∙◌, arith}
use Rattle.std.proofs.lemmas.Option.{slice_get-get_or}
use Rattle.asn1_schema.specs.declared.part.Span.{Span}
use Rattle.asn1_x691_writers.specs.Written.{IsIndex}
use Rattle.asn1_x690_encode.specs.OtherSteps.{default_size}
use Rattle.asn1_x690_encode.proofs.within.may_be_default.Goals as goal

bits_of : (at from n : ℕ) → at < 2 ^ 64 - 8 → IsIndex at (from + n) → at - from ≡ n
bits_of at from n few (inl e) = omega (arith, e)
bits_of at from n few (inr p) = absurd (omega (arith, few, p.0))

pub returns-else-to : goal.returns-else-to
returns-else-to c list index d =
    let a = c.args in
    let none : Span = record { at = 0; count = 0 } in
    let s = get_or a.defaults.spans.now a.value none in
    let is = slice_get-get_or a.defaults.spans.now a.value none (omega (arith, c.if-value-defaults.false)) in
    let size : length list ≡ s.count = default_size a.defaults a.value s list is d in
    let many : a.to - a.from ≡ length list = bits_of a.to a.from (length list) (omega (arith, c.if-to.false)) index in
    eq-eqb c.saturating_sub.result s.count (c.saturating_sub.ensures ∙ many ∙ size)

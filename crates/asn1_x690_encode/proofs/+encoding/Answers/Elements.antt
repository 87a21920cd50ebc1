-- Answers for the encoders of src/element.rt.
use Rattle.std.proofs.Common.{◌≡◌, ℕ, ◌*◌, ◌/◌, ◌^◌, ◌<◌, List, ◌++◌, Bool, true, false, length, refl, sym, ap, ◌∙◌, subst, inl, inr, arith}
use Rattle.std.specs.Prelude.{◌⊎◌, ◌==◌}
use Rattle.std.proofs.lemmas.Bool.{cases_lt}
use Rattle.asn1_x690.specs.declared.fault.FaultKind.{FaultKind}
use Rattle.asn1_x690.specs.declared.tables.Identifier.{Identifier}
use Rattle.asn1_x690.specs.declared.tables.Tag.{Tag}
use Rattle.asn1_x690.specs.Elements.{identifier}
use Rattle.asn1_x690.specs.TypeContents.{ByHeader}
use Rattle.asn1_x690_writers.specs.Written.{IsWritten}
use Rattle.asn1_x690_encode.specs.declared.inner.Inner.{Inner}
use Rattle.asn1_x690_encode.specs.declared.inner.Inner.TheVariants.{Tagged, Around}
use Rattle.asn1_x690_encode.specs.Encoding.{ElementOutcome, ContentsOutcome, around_in, tagged_in, contents_in, inner_in}
use Rattle.asn1_x690_encode.specs.EnclosedSteps.{body_long, body_done, body_here, enclosed_done}
use Rattle.asn1_x690_encode.specs.NodeSteps.{tagged_more}
use Rattle.asn1_x690_encode.specs.Kinds.{is_structured, identifier_by}
use Rattle.asn1_x690_encode.specs.Steps.{as_contents, begun_here, on_octet}
use Rattle.asn1_x690_encode.proofs.+encoding.Goals as goal

pub encode_around-returns-in-Some : goal.element::encode_around-returns-in-Some
encode_around-returns-in-Some t c =
    let a = c.args in
    let k = c.encode_enclosed in
    subst
    (λ (l : List Tag). ElementOutcome a.context.now (around_in a.context.now a.depth a.node a.types.now a.kind.now l) a.octets.now a.state.now
    k.new.octets k.new.state k.result) (sym c.in-Some.ensures) k.ensures

pub encode_tagged-returns-else-is_empty : goal.element::encode_tagged-returns-else-is_empty
encode_tagged-returns-else-is_empty t c =
    let a = c.args in
    let cx = a.context.now in
    let k = c.encode_enclosed-in-Some in
    subst
    (λ (l : List Tag). ElementOutcome cx (tagged_in cx a.depth a.node a.types.now a.kind.now l) a.octets.now a.state.now
    k.new.octets k.new.state k.result) (sym c.in-Some.ensures)
    (tagged_more a.node (identifier_by (is_structured a.kind.now)) (contents_in cx a.depth a.node a.types.now a.kind.now) c.in-Some.tag c.in-Some.rest.now
    (λ (B : ByHeader FaultKind Identifier). ElementOutcome cx B a.octets.now a.state.now k.new.octets k.new.state k.result)
    (λ e. let zero : (length c.in-Some.rest.now == 0) ≡ true = ap (λ (l : List Tag). length l == 0) e in
    let n : (length c.in-Some.rest.now == 0) ≡ false = sym c.is_empty.ensures ∙ c.if-is_empty.false in cc) k.ensures)

pub encode_inner-returns-in-Tagged : goal.element::encode_inner-returns-in-Tagged
encode_inner-returns-in-Tagged t c =
    let a = c.args in
    let cx = a.context.now in
    let k = c.encode_tagged_within in
    let i = c.in-Tagged in
    subst
    (λ (x : Inner). ContentsOutcome cx (inner_in cx a.depth a.node x) a.octets.now a.state.now k.new.octets k.new.state c.is_some.result)
    (sym i.is)
    (subst
    (λ (b : Bool). ContentsOutcome cx (inner_in cx a.depth a.node (Tagged i.kind i.types i.tags)) a.octets.now a.state.now k.new.octets k.new.state b)
    (sym c.is_some.ensures)
    (as_contents cx a.node (tagged_in cx a.depth a.node i.types.now i.kind.now i.tags.now) a.octets.now a.state.now k.new.octets k.new.state k.result k.ensures))

pub encode_inner-returns-in-Around : goal.element::encode_inner-returns-in-Around
encode_inner-returns-in-Around t c =
    let a = c.args in
    let cx = a.context.now in
    let k = c.encode_around in
    let i = c.in-Around in
    subst
    (λ (x : Inner). ContentsOutcome cx (inner_in cx a.depth a.node x) a.octets.now a.state.now k.new.octets k.new.state c.is_some-in-Around.result)
    (sym i.is)
    (subst
    (λ (b : Bool). ContentsOutcome cx (inner_in cx a.depth a.node (Around i.kind i.types i.tags)) a.octets.now a.state.now k.new.octets k.new.state b)
    (sym c.is_some-in-Around.ensures)
    (as_contents cx a.node (around_in cx a.depth a.node i.types.now i.kind.now i.tags.now) a.octets.now a.state.now k.new.octets k.new.state k.result k.ensures))

pub encode_body_after-returns-then-count-ge-MOST : goal.element::encode_body_after-returns-then-count-ge-MOST
encode_body_after-returns-then-count-ge-MOST t c =
    let a = c.args in
    let k = c.encode_inner in
    let l = c.leave in
    body_long a.context.now a.depth a.node a.inner a.state.now a.octets.now k.new.octets k.new.state a.reserved c.saturating_sub-count.result
    (c.if-not-encode_inner.ensures) c.requires.most c.saturating_sub-count.ensures l.new.state (omega (arith, c.if-count-ge-MOST.true)) l.ensures.next l.ensures.node
    l.ensures.reason c.requires.kind

pub encode_body_after-returns : goal.element::encode_body_after-returns
encode_body_after-returns t c =
    let a = c.args in
    let k = c.encode_inner in
    let put = c.put_length_before-width in
    body_done a.context.now a.depth a.node a.inner a.state.now a.octets.now k.new.octets k.new.state a.reserved c.saturating_sub-count.result
    (c.if-not-encode_inner.ensures) c.requires.most c.saturating_sub-count.ensures (omega (arith, c.if-count-ge-MOST.false)) put.new.octets put.result
    k.auto.octets put.ensures.whole put.ensures.before
    (λ le. let q = c.is_cut.ensures.whole c.if-is_cut.false (omega (arith, le, put.auto.octets)) in omega (arith, q, put.auto.octets))

pub encode_body_after-returns-then-not-encode_inner : goal.element::encode_body_after-returns-then-not-encode_inner
encode_body_after-returns-then-not-encode_inner t c =
    let a = c.args in
    begun_here a.context.now (inner_in a.context.now a.depth a.node a.inner).misfit a.state.now (8 * a.reserved) c.encode_inner.new.state
    c.if-not-encode_inner.ensures

pub encode_body_after_one-returns-then-bits-ge-MOST : goal.element::encode_body_after_one-returns-then-bits-ge-MOST
encode_body_after_one-returns-then-bits-ge-MOST t c =
    let a = c.args in
    let k = c.encode_inner in
    let l = c.leave in
    body_long a.context.now a.depth a.node a.inner a.state.now a.octets.now k.new.octets k.new.state 1 c.saturating_sub-bits.result
    (c.if-not-encode_inner.ensures) (omega arith) c.saturating_sub-bits.ensures l.new.state (omega (arith, c.if-bits-ge-MOST.true)) l.ensures.next l.ensures.node
    l.ensures.reason c.requires.kind

pub encode_body_after_one-returns : goal.element::encode_body_after_one-returns
encode_body_after_one-returns t c =
    let a = c.args in
    let k = c.encode_inner in
    let put = c.put_length_before-width in
    body_done a.context.now a.depth a.node a.inner a.state.now a.octets.now k.new.octets k.new.state 1 c.saturating_sub-bits.result
    (c.if-not-encode_inner.ensures) (omega arith) c.saturating_sub-bits.ensures (omega (arith, c.if-bits-ge-MOST.false)) put.new.octets put.result
    k.auto.octets put.ensures.whole put.ensures.before (λ le. omega (arith, le, put.ensures.some))

pub encode_body_after_one-returns-then-not-encode_inner : goal.element::encode_body_after_one-returns-then-not-encode_inner
encode_body_after_one-returns-then-not-encode_inner t c =
    let a = c.args in
    begun_here a.context.now (inner_in a.context.now a.depth a.node a.inner).misfit a.state.now 8 c.encode_inner.new.state
    c.if-not-encode_inner.ensures

pub encode_enclosed-returns-in-Some : goal.element::encode_enclosed-returns-in-Some
encode_enclosed-returns-in-Some t c =
    let a = c.args in
    let cx = a.context.now in
    let k = c.encode_body in
    let split = c.split_at_mut-tail in
    let front = split.result.0.now in
    let tail = split.result.1.now in
    let begun = c.put_identifier-start in
    let start = begun.result in
    let size : 8 * length (front ++ tail) < 2 ^ 64 =
    subst (λ (l : List ℕ). 8 * length l < 2 ^ 64) split.ensures.value (omega (arith, begun.auto.octets, c.requires.size)) in
    let whole : length (front ++ tail) ≡ length begun.new.octets =
    subst (λ (l : List ℕ). length l ≡ length begun.new.octets) split.ensures.value refl in
    let inside : (length front ≡ start / 8) ⊎ (length (front ++ tail) < start / 8) = elim (cases_lt (length (front ++ tail)) (start / 8)) [
      | inl lt ↦ inr lt
      | inr le ↦ inl (omega (arith, le, whole, split.ensures.front_len, c.min-before.ensures))
    ] in
    let ids : IsWritten identifier a.id a.octets.now a.state.now.at (front ++ tail) start =
    subst (λ (l : List ℕ). IsWritten identifier a.id a.octets.now a.state.now.at l start) split.ensures.value begun.ensures in
    enclosed_done cx a.depth a.node a.inner a.state.now tail k.new.octets k.new.state c.in-Some.size c.in-Some.ensures a.id c.found.result a.octets.now
    front start c.after-state.result c.found.ensures ids size
    (on_octet a.octets.now begun.new.octets a.state.now.at start begun.ensures.list begun.ensures.grown begun.ensures.whole c.requires.whole)
    inside k.auto.octets c.after-state.ensures

pub encode_body_after-returns-then-is_cut : goal.element::encode_body_after-returns-then-is_cut
encode_body_after-returns-then-is_cut t c =
    let a = c.args in
    let cx = a.context.now in
    let k = c.encode_body_again in
    body_here cx (inner_in cx a.depth a.node a.inner) a.state.now (record c.encode_inner.new.state { next = a.state.now.next }) k.new.octets k.new.state
    k.result refl k.ensures

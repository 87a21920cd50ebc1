-- Answers for the encoders of src/choice.rt.
use Rattle.std.proofs.Common.{◌≡◌, ℕ, ◌+◌, ◌-◌, true, false, refl, sym, ◌∙◌, arith}
use Rattle.std.proofs.lemmas.Option.{slice_get_within}
use Rattle.asn1_schema.specs.declared.misfit.MisfitKind.TheVariants.{OtherPart, NoEncoding}
use Rattle.asn1_schema.specs.declared.part.Part.TheVariants as item
use Rattle.asn1_schema.specs.Encodings.{CanEncode}
use Rattle.asn1_schema.specs.Pieces.{Chosen}
use Rattle.asn1_schema.specs.TypeEncodings.{TypeEncoding}
use Rattle.asn1_x691.specs.declared.fault.FaultKind.{FaultKind}
use Rattle.asn1_x691.specs.Fields.{constrained}
use Rattle.asn1_x691.specs.Laws.RangeLaws.{constrained_within}
use Rattle.asn1_x691_writers.specs.Put.{piece_in}
use Rattle.asn1_x691_writers.specs.PutSteps.{rejected}
use Rattle.asn1_x691.specs.Types.{IsAddedAlternative}
use Rattle.asn1_x691_encode.specs.Encoding.{Outcome, choice_in, choice_extension_in}
use Rattle.asn1_x691_encode.specs.ExtensionSteps.{root_step, added_step}
use Rattle.asn1_x691_encode.specs.LeafSteps.{after_put, part_next}
use Rattle.asn1_x691_encode.specs.ChoiceSteps.{choice_other, choice_none, index_step, the_alternative}
use Rattle.asn1_x691_encode.proofs.+encoding.Goals as goal

pub encode_choice_of-returns-in-None : goal.choice::encode_choice_of-returns-in-None
encode_choice_of-returns-in-None t c =
    let cx = c.args.context.now in
    let a = c.args in
    let k = c.reject in
    let s = k.new.state in
    let T = choice_in cx a.depth a.node a.rows in
    let p = piece_in cx.tables.ranges.now cx.source.now a.part in
    after_put cx T a.part a.octets.now a.octets.now a.state.now s s c.requires.next refl refl refl k.result k.result refl
    (rejected cx.is_aligned T p a.octets.now a.state.now s k.result a.node OtherPart k.ensures.result k.ensures.at k.ensures.next
    k.ensures.node k.ensures.reason (choice_other cx a.depth a.node a.rows p (c.in-None.ensures cx.tables.ranges.now cx.source.now)))
    (λ q. absurd (let e : true ≡ false = sym q ∙ k.ensures.result in cc)) (λ q. refl)

pub encode_index-returns-then-index-last : goal.choice::encode_index-returns-then-index-last
encode_index-returns-then-index-last t c =
    let cx = c.args.context.now in
    let a = c.args in
    let k = c.reject in
    let s = k.new.state in
    let T = choice_in cx a.depth a.node a.rows in
    let none : (at : ℕ) → CanEncode (constrained cx.is_aligned (a.rows.count - 1) a.node at).encodes a.index → ⊥ =
    λ at p.
    let most = constrained_within cx.is_aligned (a.rows.count - 1) a.node at a.index p.list p.encoded in
    omega (arith, most, c.if-index-last.true, c.saturating_sub-last.ensures) in
    after_put cx T (item.Chosen a.index) a.octets.now a.octets.now a.state.now s s c.requires.next refl refl refl k.result k.result refl
    (rejected cx.is_aligned T (Chosen a.index) a.octets.now a.state.now s k.result a.node NoEncoding k.ensures.result k.ensures.at
    k.ensures.next k.ensures.node k.ensures.reason (choice_none cx a.depth a.node a.rows a.index none))
    (λ q. absurd (let e : true ≡ false = sym q ∙ k.ensures.result in cc)) (λ q. refl)

pub encode_index-overflow_add-state : goal.choice::encode_index-overflow_add-state
encode_index-overflow_add-state t c =
    let within = slice_get_within c.args.context.now.parts.now c.args.state.now.next (item.Chosen c.args.index) c.requires.next in
    omega (arith, within, c.requires.parts)

pub encode_index-returns : goal.choice::encode_index-returns
encode_index-returns t c =
    let cx = c.args.context.now in
    let a = c.args in
    let old = a.state.now in
    let mid = record old { at = c.put_constrained-state.result; next = old.next + 1 } in
    (index_step cx a.depth a.node a.rows c.saturating_sub-last.result a.index a.octets.now c.put_constrained-state.new.octets old mid
    c.saturating_sub-last.ensures (c.put_constrained-state.ensures a.node) (part_next cx old.next (item.Chosen a.index) c.requires.next)).onward
    c.encode_alternative.new.octets c.encode_alternative.new.state c.encode_alternative.result (c.encode_alternative.ensures)

pub encode_alternative-returns-in-Some : goal.choice::encode_alternative-returns-in-Some
encode_alternative-returns-in-Some t c =
    let cx = c.args.context.now in
    let a = c.args in
    let last = c.encode_node in
    the_alternative cx a.depth a.node a.rows a.index c.in-Some.member
    (λ (A : ℕ → TypeEncoding FaultKind). Outcome cx A a.octets.now a.state.now last.new.octets last.new.state last.result)
    (omega (arith, c.if-index-rows.false)) (sym c.member_from.ensures ∙ c.in-Some.is) (last.ensures)

pub encode_extensible_choice-returns-then-is_addition : goal.choice::encode_extensible_choice-returns-then-is_addition
encode_extensible_choice-returns-then-is_addition t c =
    let cx = c.args.context.now in
    let a = c.args in
    let last = c.encode_added in
    (added_step cx a.node (IsAddedAlternative (a.rows.count - 1)) (choice_in cx a.depth a.node a.rows)
    (choice_extension_in cx a.depth a.node a.rows a.known) c.in-Some.part a.octets.now c.put_bit-state.new.octets a.state.now
    c.put_bit-state.result (sym c.part_at.ensures ∙ c.in-Some.is) (c.put_bit-state.ensures cx.is_aligned a.node)
    (c.is_addition.ensures.added cx.tables.ranges.now cx.source.now c.if-is_addition.true)).onward
    last.new.octets last.new.state last.result (last.ensures)

pub encode_extensible_choice-returns-else-is_addition : goal.choice::encode_extensible_choice-returns-else-is_addition
encode_extensible_choice-returns-else-is_addition t c =
    let cx = c.args.context.now in
    let a = c.args in
    let last = c.encode_choice_of in
    (root_step cx a.node (IsAddedAlternative (a.rows.count - 1)) (choice_in cx a.depth a.node a.rows)
    (choice_extension_in cx a.depth a.node a.rows a.known)
    c.in-Some.part a.octets.now c.put_bit-state-in-Some.new.octets a.state.now c.put_bit-state-in-Some.result (sym c.part_at.ensures ∙ c.in-Some.is)
    (c.put_bit-state-in-Some.ensures cx.is_aligned a.node) (c.is_addition.ensures.root cx.tables.ranges.now cx.source.now c.if-is_addition.false)).onward
    last.new.octets last.new.state last.result (last.ensures)

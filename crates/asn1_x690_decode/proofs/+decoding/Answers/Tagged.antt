-- Answers for the decoders of src/tagged.rt.
use Rattle.std.proofs.Common.{◌≡◌, List, [], ◌∷◌, true, false, length, refl, sym, ◌∙◌, ap, subst, arith, inl, inr}
use Rattle.std.specs.Prelude.{◌==◌}
use Rattle.asn1_bits.specs.Bits.{bits}
use Rattle.asn1_schema.specs.declared.tables.Node.TheVariants.{SequenceOf, SetOf}
use Rattle.asn1_x690.specs.declared.fault.FaultKind.TheVariants.{Extra}
use Rattle.asn1_x690.specs.declared.tables.Tag.{Tag}
use Rattle.asn1_x690.specs.TypeContents.{only_value}
use Rattle.asn1_x690.specs.Der.{element}
use Rattle.asn1_x690_fields.specs.declared.state.State.{State}
use Rattle.asn1_x690_fields.specs.Outcomes.{rest}
use Rattle.asn1_x690_fields.specs.Steps.{rest_length}
use Rattle.asn1_x690_decode.specs.Tables.{is_bare, tagged_by}
use Rattle.asn1_x690_decode.specs.Decoding.{ContentsOutcome}
use Rattle.asn1_x690_decode.proofs.StateSteps.{implied, fault_here}
use Rattle.asn1_x690_decode.proofs.ElementSteps.{is_inside, element_outcome, element_fails, element_found}
use Rattle.asn1_x690_decode.proofs.TagSteps.{own_outcome, only_done, kept_bare, in_tag, same_identifier}
use Rattle.asn1_x690_decode.proofs.+decoding.Goals as goal
use Rattle.asn1_x690_decode.proofs.+decoding.Goals.{tagged::decode_by_tags-else-is_empty-via-then-is_empty+else-not-is_bare, tagged::decode_by_tags-else-is_empty-via-else-is_empty}

pub decode_by_tags-returns-else-not-is_identifier-2-clause-did : goal.tagged::decode_by_tags-returns-else-not-is_identifier-2-clause-did
decode_by_tags-returns-else-not-is_identifier-2-clause-did t c id is =
    let context = c.args.context.now in
    let of = c.args.of.now in
    let tag = c.in-Some.tag.now in
    let others = c.in-Some.others.now in
    let split : c.args.tags.now ≡ tag ∷ others = c.in-Some.ensures.cases.0 in
    let b = is_bare of.tags.now.is_any of.is.now in
    let same = (c.is_identifier-in-Some.ensures.yes c.if-not-is_identifier-2.false) id is.shown in
    let not : b ≡ false → others ≡ [] → ⊥ = elim c.else-is_empty.branch [
      | tagged::decode_by_tags-else-is_empty-via-then-is_empty+else-not-is_bare w ↦
          λ e f. let k : true ≡ false = sym w.if-not-is_bare.false ∙ w.is_bare-then-is_empty.ensures ∙ e in cc
      | tagged::decode_by_tags-else-is_empty-via-else-is_empty w ↦
          λ e f. let k : false ≡ true = w.if-is_empty.ensures ∙ ap (λ (l : List Tag). length l == 0) f in cc
    ] in
    let d = c.decode_in_tag in
    subst (λ (ts : List Tag). ContentsOutcome context ((tagged_by context c.args.depth of.node of.tags.now of.is.now ts).contents id) c.args.state.now
    d.new.state c.args.parts.now d.new.parts d.result) (sym split)
    (implied context ((tagged_by context c.args.depth of.node of.tags.now of.is.now (tag ∷ others)).contents id)
    (only_value Extra of.node (element of.node (tagged_by context c.args.depth of.node of.tags.now of.is.now others))).contents c.args.state.now
    d.new.state c.args.parts.now d.new.parts d.result
    (in_tag context c.args.depth of.node of.tags.now id b of.is.now tag others not (same_identifier id tag true same.0 same.1)) d.ensures.did)

pub decode_in_tag_of-returns-then-not-is_decoded-clause-did : goal.tagged::decode_in_tag_of-returns-then-not-is_decoded-clause-did
decode_in_tag_of-returns-then-not-is_decoded-clause-did t c =
    let context = c.args.context.now in
    let list = bits context.octets.now in
    let s = c.args.state.now in
    let of = c.args.of.now in
    let node = of.node in
    let h = c.in-Some.header in
    let r = c.in-Some.ensures.read in
    let g = c.in-Some.ensures.onward in
    let mid = c.next_header.new.state in
    let d = c.decode_by_tags-is_decoded in
    let last = d.new.state in
    let first : State = record { at = h.from; end = h.to; count = mid.count; node = mid.node; kind = mid.kind } in
    let new : State = record { at = last.at; end = s.end; count = last.count; node = last.node; kind = last.kind } in
    let o = element_outcome context node s mid first h r.0 r.1 r.2 g c.in-Some.ensures.ordered c.in-Some.ensures.ends refl refl refl
    (tagged_by context c.args.depth node of.tags.now of.is.now c.args.tags.now).contents last new refl refl refl refl refl d.ensures.moved
    c.args.parts.now d.new.parts d.result d.ensures.all
    (d.ensures.did r.0.0
    (is_inside list node s mid first h r.0 r.1 r.2 g c.in-Some.ensures.ordered c.in-Some.ensures.ends refl refl)) in
    inl (element_fails context node (tagged_by context c.args.depth node of.tags.now of.is.now c.args.tags.now) s new c.args.parts.now d.new.parts
    d.result c.if-not-is_decoded.true o)

pub decode_in_tag_of-returns-then-state-end-clause-did : goal.tagged::decode_in_tag_of-returns-then-state-end-clause-did
decode_in_tag_of-returns-then-state-end-clause-did t c =
    let context = c.args.context.now in
    let list = bits context.octets.now in
    let s = c.args.state.now in
    let of = c.args.of.now in
    let node = of.node in
    let h = c.in-Some.header in
    let r = c.in-Some.ensures.read in
    let g = c.in-Some.ensures.onward in
    let mid = c.next_header.new.state in
    let d = c.decode_by_tags-is_decoded in
    let last = d.new.state in
    let first : State = record { at = h.from; end = h.to; count = mid.count; node = mid.node; kind = mid.kind } in
    let new : State = record { at = last.at; end = s.end; count = last.count; node = last.node; kind = last.kind } in
    let o = element_outcome context node s mid first h r.0 r.1 r.2 g c.in-Some.ensures.ordered c.in-Some.ensures.ends refl refl refl
    (tagged_by context c.args.depth node of.tags.now of.is.now c.args.tags.now).contents last new refl refl refl refl refl d.ensures.moved
    c.args.parts.now d.new.parts d.result d.ensures.all
    (d.ensures.did r.0.0
    (is_inside list node s mid first h r.0 r.1 r.2 g c.in-Some.ensures.ordered c.in-Some.ensures.ends refl refl)) in
    let found = element_found context node (tagged_by context c.args.depth node of.tags.now of.is.now c.args.tags.now) s new c.args.parts.now
    d.new.parts d.result c.if-not-is_decoded.false o in
    let more = c.if-state-end.true in
    let size = rest_length list new c.requires.within.inside in
    inr (record {
      value = found.parts;
      rest = rest list new;
      starts = found.are;
      holds = (
        omega (arith, size, more),
        fault_here list new c.fail.new.state node Extra c.requires.within.inside c.fail.ensures.at c.fail.ensures.end c.fail.ensures.node
            c.fail.ensures.kind,
      );
    })

pub decode_in_tag_of-returns-else-state-end-clause-did : goal.tagged::decode_in_tag_of-returns-else-state-end-clause-did
decode_in_tag_of-returns-else-state-end-clause-did t c =
    let context = c.args.context.now in
    let list = bits context.octets.now in
    let s = c.args.state.now in
    let of = c.args.of.now in
    let node = of.node in
    let h = c.in-Some.header in
    let r = c.in-Some.ensures.read in
    let g = c.in-Some.ensures.onward in
    let mid = c.next_header.new.state in
    let d = c.decode_by_tags-is_decoded in
    let last = d.new.state in
    let first : State = record { at = h.from; end = h.to; count = mid.count; node = mid.node; kind = mid.kind } in
    let new : State = record { at = last.at; end = s.end; count = last.count; node = last.node; kind = last.kind } in
    let o = element_outcome context node s mid first h r.0 r.1 r.2 g c.in-Some.ensures.ordered c.in-Some.ensures.ends refl refl refl
    (tagged_by context c.args.depth node of.tags.now of.is.now c.args.tags.now).contents last new refl refl refl refl refl d.ensures.moved
    c.args.parts.now d.new.parts d.result d.ensures.all
    (d.ensures.did r.0.0
    (is_inside list node s mid first h r.0 r.1 r.2 g c.in-Some.ensures.ordered c.in-Some.ensures.ends refl refl)) in
    let found = element_found context node (tagged_by context c.args.depth node of.tags.now of.is.now c.args.tags.now) s new c.args.parts.now
    d.new.parts d.result c.if-not-is_decoded.false o in
    let none = c.if-state-end.false in
    let size = rest_length list new c.requires.within.inside in
    record {
      parts = found.parts;
      are = only_done Extra node (element node (tagged_by context c.args.depth node of.tags.now of.is.now c.args.tags.now)) list s new found.parts
          found.are (omega (arith, size, none));
      grown = found.grown;
    }

pub decode_bare-returns-then-of-clause-did : goal.tagged::decode_bare-returns-then-of-clause-did
decode_bare-returns-then-of-clause-did t c id is =
    kept_bare c.args.context.now c.args.depth c.args.of.now.node c.args.element.now.start c.args.element.now.identifier id
    c.args.of.now.tags.now.is_any c.args.of.now.is.now c.if-of.true c.args.state.now c.keep.new.state c.args.parts.now c.keep.new.parts
    c.keep.result c.keep.ensures.is is (c.keep.ensures.grown c.args.context.now.tables.ranges.now (bits c.args.context.now.octets.now))

pub decode_own-returns-in-SequenceOf-clause-did : goal.tagged::decode_own-returns-in-SequenceOf-clause-did
decode_own-returns-in-SequenceOf-clause-did t c =
    own_outcome c.args.context.now c.args.depth c.args.of.now.node c.args.of.now.tags.now c.args.of.now.is.now
    (SequenceOf c.in-SequenceOf.length c.in-SequenceOf.is_extensible c.in-SequenceOf.item) c.in-SequenceOf.is c.args.state.now
    c.decode_list.new.state c.args.parts.now c.decode_list.new.parts c.decode_list.result c.decode_list.ensures.did

pub decode_own-returns-in-SetOf-clause-did : goal.tagged::decode_own-returns-in-SetOf-clause-did
decode_own-returns-in-SetOf-clause-did t c =
    own_outcome c.args.context.now c.args.depth c.args.of.now.node c.args.of.now.tags.now c.args.of.now.is.now
    (SetOf c.in-SetOf.length c.in-SetOf.is_extensible c.in-SetOf.item) c.in-SetOf.is c.args.state.now
    c.decode_list-in-SetOf.new.state c.args.parts.now c.decode_list-in-SetOf.new.parts c.decode_list-in-SetOf.result
    c.decode_list-in-SetOf.ensures.did

pub decode_own-returns-in_default : goal.tagged::decode_own-returns-in_default
decode_own-returns-in_default t c = record {
  moved = c.decode_leaf.ensures.moved;
  all = c.decode_leaf.ensures.all;
  did = c.decode_leaf.ensures.did c.args.depth;
}

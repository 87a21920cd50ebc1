-- Answers for the decoders of src/element.rt.
use Rattle.std.proofs.Common.{◌≡◌, ℕ, suc, ◌-◌, refl, sym, subst, arith}
use Rattle.asn1_bits.specs.Bits.{bits}
use Rattle.asn1_x690_fields.specs.declared.state.State.{State}
use Rattle.asn1_x690_decode.specs.Tables.{types, tagged_by}
use Rattle.asn1_x690_decode.proofs.StateSteps.{Implies, implied}
use Rattle.asn1_x690_decode.proofs.ElementSteps.{is_inside, element_outcome}
use Rattle.asn1_x690_decode.proofs.TagSteps.{type_implied}
use Rattle.asn1_x690_decode.proofs.+decoding.Goals as goal

pub decode_contents-returns-in-Some-tags_at-clause-did : goal.element::decode_contents-returns-in-Some-tags_at-clause-did
decode_contents-returns-in-Some-tags_at-clause-did t c id is =
    let context = c.args.context.now in
    let depth = c.args.depth in
    let node = c.args.node in
    let n = c.in-Some.is'.now in
    let tags = c.in-Some-tags_at.tags.now in
    let inner = c.decode_by_tags in
    let e : suc (depth - 1) ≡ depth = (let some = c.if-depth-eq0.false in omega (arith, some)) in
    let implies = type_implied context (depth - 1) node tags id n c.tags_in-rows.result.now (sym c.in-Some.ensures)
    (sym c.in-Some-tags_at.ensures) c.tags_in-rows.ensures in
    implied context ((types context depth node).contents id)
    ((tagged_by context (depth - 1) node tags n c.tags_in-rows.result.now).contents id) c.args.state.now inner.new.state c.args.parts.now
    inner.new.parts inner.result
    (subst (λ (d : ℕ). Implies ((types context d node).contents id)
    ((tagged_by context (depth - 1) node tags n c.tags_in-rows.result.now).contents id)) e implies)
    (inner.ensures.did id is)

pub decode_element-returns-in-Some-clause-did : goal.element::decode_element-returns-in-Some-clause-did
decode_element-returns-in-Some-clause-did t c =
    let context = c.args.context.now in
    let list = bits context.octets.now in
    let s = c.args.state.now in
    let h = c.in-Some.header in
    let mid = c.next_header.new.state in
    let last = c.decode_contents-is_decoded.new.state in
    let first : State = record { at = h.from; end = h.to; count = mid.count; node = mid.node; kind = mid.kind } in
    let new : State = record { at = last.at; end = s.end; count = last.count; node = last.node; kind = last.kind } in
    element_outcome context c.args.node s mid first h c.in-Some.ensures.read.0 c.in-Some.ensures.read.1 c.in-Some.ensures.read.2
    c.in-Some.ensures.onward c.in-Some.ensures.ordered c.in-Some.ensures.ends refl refl refl (types context c.args.depth c.args.node).contents
    last new refl refl refl refl refl c.decode_contents-is_decoded.ensures.moved c.args.parts.now c.decode_contents-is_decoded.new.parts
    c.decode_contents-is_decoded.result c.decode_contents-is_decoded.ensures.all
    (c.decode_contents-is_decoded.ensures.did c.in-Some.ensures.read.0.0
    (is_inside list c.args.node s mid first h c.in-Some.ensures.read.0 c.in-Some.ensures.read.1 c.in-Some.ensures.read.2
    c.in-Some.ensures.onward c.in-Some.ensures.ordered c.in-Some.ensures.ends refl refl))

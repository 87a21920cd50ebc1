-- Answers for the decoders of src/choice.rt.
use Rattle.std.proofs.Common.{◌+◌, ◌∷◌, Bool, refl, sym, subst, arith}
use Rattle.asn1_bits.specs.Bits.{bits}
use Rattle.asn1_schema.specs.declared.misfit.MisfitKind.TheVariants as misfit
use Rattle.asn1_schema.specs.Encodings.{mapped}
use Rattle.asn1_schema.specs.Pieces.{Chosen, Unknown, Parts}
use Rattle.asn1_x690.specs.declared.fault.FaultKind.TheVariants.{NoNode, OtherTag}
use Rattle.asn1_x690.specs.TypeContents.{invalid_header}
use Rattle.asn1_x690.specs.Der.{any_value, alternatives, choice_by}
use Rattle.asn1_x690_fields.specs.declared.state.State.{State}
use Rattle.asn1_x690_fields.specs.Outcomes.{rest, fault_of}
use Rattle.asn1_x690_decode.specs.Tables.{tables_of, types}
use Rattle.asn1_x690_decode.proofs.StateSteps.{Implies, implied, fault_here, after_part}
use Rattle.asn1_x690_decode.proofs.TagSteps.{kept_outcome}
use Rattle.asn1_x690_decode.proofs.ChoiceSteps.{Alternatives, chosen, not_in_tables, none_found, choice_found, choice_missing}
use Rattle.asn1_x690_decode.proofs.+decoding.Goals as goal

pub decode_alternative-returns-clause-did : goal.choice::decode_alternative-returns-clause-did
decode_alternative-returns-clause-did t c id is =
    let context = c.args.context.now in
    let s = c.args.state.now in
    let mid : State = record { at = s.at; end = s.end; count = c.push_part-state.result; node = s.node; kind = s.kind } in
    let d = c.decode_contents in
    after_part context ((types context c.args.depth c.args.node).contents id) (Chosen c.args.index) s mid d.new.state c.args.parts.now
    c.push_part-state.new.parts d.new.parts refl refl
    (c.push_part-state.ensures.grown context.tables.ranges.now (bits context.octets.now)) d.result
    (d.ensures.did id (record { shown = is.shown; encodes = is.encodes }))

pub decode_added-overflow_add-index : goal.choice::decode_added-overflow_add-index
decode_added-overflow_add-index t c =
    let few = c.in-Found.ensures.few in record { fits = omega (arith, few) }

pub decode_added-returns-in-Found-clause-did : goal.choice::decode_added-returns-in-Found-clause-did
decode_added-returns-in-Found-clause-did t c id is =
    let context = c.args.context.now in
    let a = c.args in
    let d = c.decode_alternative in
    let f = c.in-Found.ensures.is id is.shown in
    implied context (Alternatives context a.depth a.node id (any_value Unknown a.node) a.known.count a.count a.known.from)
    (mapped (λ (ts : Parts). Chosen (a.count + c.in-Found.index) ∷ ts) ((types context a.depth c.in-Found.inner).contents id))
    a.state.now d.new.state a.parts.now d.new.parts d.result
    (chosen context a.depth a.node id (any_value Unknown a.node) a.known.count a.count a.known.from c.in-Found.index c.in-Found.inner f.0 f.1 f.2)
    (d.ensures.did id is)

pub decode_added-returns-in-Missing-clause-did : goal.choice::decode_added-returns-in-Missing-clause-did
decode_added-returns-in-Missing-clause-did t c id is =
    let context = c.args.context.now in
    let a = c.args in
    let f = c.in-Missing.ensures.is id is.shown in
    not_in_tables context a.depth a.node id (any_value Unknown a.node) a.known.count a.count a.known.from f.0 f.1 f.2 f.3
    (rest (bits context.octets.now) a.state.now) (fault_of c.fail.new.state)
    (fault_here (bits context.octets.now) a.state.now c.fail.new.state a.node NoNode c.requires.contents.inside c.fail.ensures.at
    c.fail.ensures.end c.fail.ensures.node c.fail.ensures.kind)

pub decode_added-returns-in-Other-clause-did : goal.choice::decode_added-returns-in-Other-clause-did
decode_added-returns-in-Other-clause-did t c id is =
    let context = c.args.context.now in
    let a = c.args in
    let f = c.in-Other.ensures.is id is.shown in
    let k = c.keep in
    implied context (Alternatives context a.depth a.node id (any_value Unknown a.node) a.known.count a.count a.known.from)
    ((any_value Unknown a.node).contents id) a.state.now k.new.state a.parts.now k.new.parts k.result
    (none_found context a.depth a.node id (any_value Unknown a.node) a.known.count a.count a.known.from f)
    (kept_outcome context a.element.now.start a.element.now.identifier id a.state.now k.new.state a.parts.now k.new.parts k.result
    k.ensures.is is Unknown a.node (k.ensures.grown context.tables.ranges.now (bits context.octets.now)))

pub decode_choice-returns-in-Found-clause-did : goal.choice::decode_choice-returns-in-Found-clause-did
decode_choice-returns-in-Found-clause-did t c id is =
    let context = c.args.context.now in
    let a = c.args in
    let f = c.in-Found.ensures.is id is.shown in
    let d = c.decode_alternative in
    choice_found context a.depth a.node id a.root a.known c.in-Found.index c.in-Found.inner f.0 f.1 f.2 a.state.now d.new.state a.parts.now
    d.new.parts d.result (d.ensures.did id is) a.is_extensible

pub decode_choice-returns-in-Missing-clause-did : goal.choice::decode_choice-returns-in-Missing-clause-did
decode_choice-returns-in-Missing-clause-did t c id is =
    let context = c.args.context.now in
    let a = c.args in
    let f = c.in-Missing.ensures.is id is.shown in
    choice_missing context a.depth a.node id a.root a.known f.0 f.1 f.2 f.3 (rest (bits context.octets.now) a.state.now) (fault_of c.fail.new.state)
    (fault_here (bits context.octets.now) a.state.now c.fail.new.state a.node NoNode c.requires.contents.inside c.fail.ensures.at
    c.fail.ensures.end c.fail.ensures.node c.fail.ensures.kind) a.is_extensible

pub decode_choice-returns-then-not-is_extensible-clause-did : goal.choice::decode_choice-returns-then-not-is_extensible-clause-did
decode_choice-returns-then-not-is_extensible-clause-did t c id is =
    let context = c.args.context.now in
    let a = c.args in
    let f = c.in-Other.ensures.is id is.shown in
    subst (λ (b : Bool). ((choice_by (types context a.depth) (tables_of context) a.node b a.root a.known).contents id).fault
    (rest (bits context.octets.now) a.state.now) (fault_of c.fail-then-not-is_extensible.new.state)) (sym c.if-not-is_extensible.true)
    ((none_found context a.depth a.node id (invalid_header OtherTag misfit.OtherPart a.node) a.root.count 0 a.root.from f).fault
    (rest (bits context.octets.now) a.state.now) (fault_of c.fail-then-not-is_extensible.new.state)
    (fault_here (bits context.octets.now) a.state.now c.fail-then-not-is_extensible.new.state a.node OtherTag c.requires.contents.inside c.fail-then-not-is_extensible.ensures.at
    c.fail-then-not-is_extensible.ensures.end c.fail-then-not-is_extensible.ensures.node c.fail-then-not-is_extensible.ensures.kind))

pub decode_choice-returns-else-not-is_extensible-clause-did : goal.choice::decode_choice-returns-else-not-is_extensible-clause-did
decode_choice-returns-else-not-is_extensible-clause-did t c id is =
    let context = c.args.context.now in
    let a = c.args in
    let f = c.in-Other.ensures.is id is.shown in
    let d = c.decode_added in
    implied context ((choice_by (types context a.depth) (tables_of context) a.node a.is_extensible a.root a.known).contents id)
    ((alternatives (types context a.depth) (tables_of context) a.node a.known.count a.root.count a.known.from (any_value Unknown a.node)).contents id)
    a.state.now d.new.state a.parts.now d.new.parts d.result
    (subst (λ (b : Bool). Implies ((choice_by (types context a.depth) (tables_of context) a.node b a.root a.known).contents id)
    ((alternatives (types context a.depth) (tables_of context) a.node a.known.count a.root.count a.known.from (any_value Unknown a.node)).contents id))
    (sym c.if-not-is_extensible.false)
    (none_found context a.depth a.node id
    (alternatives (types context a.depth) (tables_of context) a.node a.known.count a.root.count a.known.from (any_value Unknown a.node))
    a.root.count 0 a.root.from f)) (d.ensures.did id is)

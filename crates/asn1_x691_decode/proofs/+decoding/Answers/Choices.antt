-- Answers for the decoders of src/choice.rt.
use Rattle.std.proofs.Common.{ℕ, ◌+◌, Bool, true, false, sym, ◌∙◌, subst, arith, Option, Some, None}
use Rattle.std.specs.Prelude.{slice_get}
use Rattle.asn1_bits.specs.Bits.{bits}
use Rattle.asn1_schema.specs.Pieces.{Parts}
use Rattle.asn1_schema.specs.Encodings.{Encoding, Starts}
use Rattle.asn1_x691.specs.declared.fault.FaultKind.{FaultKind}
use Rattle.asn1_x691.specs.declared.fault.FaultKind.TheVariants.{NoNode}
use Rattle.asn1_x691.specs.Strings.{bit}
use Rattle.asn1_x691_fields.specs.Outcomes.{rest, position, fault_of}
use Rattle.asn1_x691_fields.specs.Steps.{fault_at}
use Rattle.asn1_x691_decode.specs.Decoding.{Outcome}
use Rattle.asn1_x691_decode.proofs.Steps.{outcome_on}
use Rattle.asn1_schema.specs.Pieces.{Unknown}
use Rattle.asn1_schema.specs.PiecesOfParts.{natural_of}
use Rattle.asn1_schema.specs.TypeEncodings.{leaf}
use Rattle.asn1_x691.specs.Fields.{small_number}
use Rattle.asn1_x691.specs.Fragments.{octets}
use Rattle.asn1_x691_decode.specs.Decoding.{known_in, choice_in, IsIndex}
use Rattle.asn1_x691_decode.proofs.ChoiceSteps as choice
use Rattle.asn1_x691_decode.proofs.ChoiceSteps.{A, H, X, index_step, no_index, no_alternative, the_alternative, known_step, unknown_step}
use Rattle.asn1_x691_decode.proofs.+decoding.Goals as goal

pub decode_alternative-returns-then-index-rows-clause-did : goal.choice::decode_alternative-returns-then-index-rows-clause-did
decode_alternative-returns-then-index-rows-clause-did t c =
    let cx = c.args.context.now in
    let list = bits cx.octets.now in
    let a = c.args in
    let now = c.push.new in
    (index_step cx a.depth a.node a.rows c.saturating_sub-last.result a.state.now c.next_constrained.new.state now.state a.parts.now now.parts c.in-Some.index
    c.saturating_sub-last.ensures c.requires.within c.next_constrained.ensures.onward c.in-Some.ensures.read
    (record { at = c.push.ensures.at; first = c.push.ensures.first; end = c.push.ensures.end }) (c.push.ensures.grown cx.tables.ranges.now list)).fault
    (fault_of c.fail.new.state)
    (no_index cx a.depth a.node a.rows c.in-Some.index (position now.state) (rest list now.state) (fault_of c.fail.new.state)
    (omega (arith, c.if-index-rows.true))
    (fault_at list now.state c.fail.new.state a.node NoNode
    (omega (arith, c.push.ensures.end, c.next_constrained.ensures.onward.inside)) c.fail.ensures.at c.fail.ensures.end c.fail.ensures.node c.fail.ensures.kind))

pub decode_alternative-returns-in-None-member_from-clause-did : goal.choice::decode_alternative-returns-in-None-member_from-clause-did
decode_alternative-returns-in-None-member_from-clause-did t c =
    let cx = c.args.context.now in
    let list = bits cx.octets.now in
    let a = c.args in
    let now = c.push.new in
    let f = c.fail-in-None-member_from in
    (index_step cx a.depth a.node a.rows c.saturating_sub-last.result a.state.now c.next_constrained.new.state now.state a.parts.now now.parts c.in-Some.index
    c.saturating_sub-last.ensures c.requires.within c.next_constrained.ensures.onward c.in-Some.ensures.read
    (record { at = c.push.ensures.at; first = c.push.ensures.first; end = c.push.ensures.end }) (c.push.ensures.grown cx.tables.ranges.now list)).fault
    (fault_of f.new.state)
    (no_alternative cx a.depth a.node a.rows c.in-Some.index (position now.state) (rest list now.state) (fault_of f.new.state)
    (omega (arith, c.if-index-rows.false)) (sym c.member_from.ensures.is ∙ c.in-None-member_from.is)
    (fault_at list now.state f.new.state a.node NoNode
    (omega (arith, c.push.ensures.end, c.next_constrained.ensures.onward.inside)) f.ensures.at f.ensures.end f.ensures.node f.ensures.kind))

pub decode_alternative-returns-in-Some-member_from-clause-did : goal.choice::decode_alternative-returns-in-Some-member_from-clause-did
decode_alternative-returns-in-Some-member_from-clause-did t c =
    let cx = c.args.context.now in
    let list = bits cx.octets.now in
    let a = c.args in
    let now = c.push.new in
    let last = c.decode_node in
    outcome_on cx (A cx a.depth a.node a.rows) (H cx a.depth a.node a.rows c.in-Some.index) a.state.now now.state last.new.state a.parts.now now.parts
    last.new.parts last.result
    (index_step cx a.depth a.node a.rows c.saturating_sub-last.result a.state.now c.next_constrained.new.state now.state a.parts.now now.parts c.in-Some.index
    c.saturating_sub-last.ensures c.requires.within c.next_constrained.ensures.onward c.in-Some.ensures.read
    (record { at = c.push.ensures.at; first = c.push.ensures.first; end = c.push.ensures.end }) (c.push.ensures.grown cx.tables.ranges.now list))
    (the_alternative cx a.depth a.node a.rows c.in-Some.index c.in-Some-member_from.member
    (λ (B : ℕ → Encoding FaultKind Parts). Outcome cx B now.state last.new.state now.parts last.new.parts last.result)
    (omega (arith, c.if-index-rows.false)) (sym c.member_from.ensures.is ∙ c.in-Some-member_from.is) last.ensures.did)

pub decode_added-returns-in-Some-known_index-clause-did : goal.choice::decode_added-returns-in-Some-known_index-clause-did
decode_added-returns-in-Some-known_index-clause-did t c =
    let cx = c.args.context.now in
    let list = bits cx.octets.now in
    let a = c.args in
    let i = c.in-Some-known_index.index in
    let mid = c.next_small_number.new.state in
    let now = c.push-in-Some-known_index.new in
    let last = c.decode_known in
    let p = c.push-in-Some-known_index.ensures in
    let k : IsIndex list c.in-Some.index a.known.count (Some i) =
    subst (λ (r : Option ℕ). IsIndex list c.in-Some.index a.known.count r) c.in-Some-known_index.is
    (c.known_index.ensures list mid c.in-Some.ensures.natural) in
    outcome_on cx (X cx a.depth a.node a.rows a.known)
    (λ at. (known_in cx a.depth a.node (slice_get cx.tables.members.now (a.known.from + i)) at).encoding) a.state.now now.state last.new.state
    a.parts.now now.parts last.new.parts last.result
    (known_step cx a.depth a.node a.rows a.known i (c.max.result + i) a.state.now mid now.state a.parts.now now.parts k.1
    (omega (arith, c.max.ensures)) c.requires.within c.next_small_number.ensures.onward
    (subst (λ (n : ℕ). Starts (small_number cx.is_aligned a.node (position a.state.now)).encodes (rest list a.state.now) n (rest list mid)) k.0
    c.in-Some.ensures.read)
    (record { at = p.at; first = p.first; end = p.end }) (p.grown cx.tables.ranges.now list))
    last.ensures.did

pub decode_added-returns-in-None-known_index-clause-did : goal.choice::decode_added-returns-in-None-known_index-clause-did
decode_added-returns-in-None-known_index-clause-did t c =
    let cx = c.args.context.now in
    let list = bits cx.octets.now in
    let a = c.args in
    let i = natural_of list c.in-Some.index in
    let mid = c.next_small_number.new.state in
    let now = c.push.new in
    let last = c.keep_octets in
    let k : IsIndex list c.in-Some.index a.known.count None =
    subst (λ (r : Option ℕ). IsIndex list c.in-Some.index a.known.count r) c.in-None-known_index.is
    (c.known_index.ensures list mid c.in-Some.ensures.natural) in
    outcome_on cx (X cx a.depth a.node a.rows a.known) (λ at. (leaf (octets 0 cx.is_aligned a.node) Unknown a.node at).encoding)
    a.state.now now.state last.new.state a.parts.now now.parts last.new.parts last.result
    (unknown_step cx a.depth a.node a.rows a.known i a.state.now mid now.state a.parts.now now.parts k c.requires.within
    c.next_small_number.ensures.onward c.in-Some.ensures.read
    (record { at = c.push.ensures.at; first = c.push.ensures.first; end = c.push.ensures.end }) (c.push.ensures.grown cx.tables.ranges.now list))
    last.ensures.did

pub decode_added-overflow_add-max : goal.choice::decode_added-overflow_add-max
decode_added-overflow_add-max t c =
    let list = bits c.args.context.now.octets.now in
    let k : IsIndex list c.in-Some.index c.args.known.count (Some c.in-Some-known_index.index) =
    subst (λ (r : Option ℕ). IsIndex list c.in-Some.index c.args.known.count r) c.in-Some-known_index.is
    (c.known_index.ensures list c.next_small_number.new.state c.in-Some.ensures.natural) in
    omega (arith, c.max.ensures, k.1)

pub decode_choice-returns-in-Some-true-clause-did : goal.choice::decode_choice-returns-in-Some-true-clause-did
decode_choice-returns-in-Some-true-clause-did t c =
    let cx = c.args.context.now in
    let list = bits cx.octets.now in
    let a = c.args in
    let mid = c.next_bit.new.state in
    let last = c.decode_added in
    let S : Bool → ℕ → Encoding FaultKind Parts = λ x at. (choice_in cx a.depth a.node x a.rows a.known at).encoding in
    subst (λ (x : Bool). Outcome cx (S x) a.state.now last.new.state a.parts.now last.new.parts last.result) (sym c.if-not-is_extensible.false)
    (outcome_on cx (S true) (choice.after_bit cx a.depth a.node a.rows a.known true) a.state.now mid last.new.state a.parts.now a.parts.now
    last.new.parts last.result
    (choice.bit_step cx a.depth a.node a.rows a.known true a.state.now mid a.parts.now c.requires.within c.next_bit.ensures.onward
    (subst (λ (b : Bool). Starts (bit a.node).encodes (rest list a.state.now) b (rest list mid)) c.in-Some-true.field-0-test
    c.in-Some-true.ensures.read))
    last.ensures.did)

pub decode_choice-returns-in-Some-false-clause-did : goal.choice::decode_choice-returns-in-Some-false-clause-did
decode_choice-returns-in-Some-false-clause-did t c =
    let cx = c.args.context.now in
    let list = bits cx.octets.now in
    let a = c.args in
    let mid = c.next_bit.new.state in
    let last = c.decode_alternative-in-Some-false in
    let S : Bool → ℕ → Encoding FaultKind Parts = λ x at. (choice_in cx a.depth a.node x a.rows a.known at).encoding in
    subst (λ (x : Bool). Outcome cx (S x) a.state.now last.new.state a.parts.now last.new.parts last.result) (sym c.if-not-is_extensible.false)
    (outcome_on cx (S true) (choice.after_bit cx a.depth a.node a.rows a.known false) a.state.now mid last.new.state a.parts.now a.parts.now
    last.new.parts last.result
    (choice.bit_step cx a.depth a.node a.rows a.known false a.state.now mid a.parts.now c.requires.within c.next_bit.ensures.onward
    (subst (λ (b : Bool). Starts (bit a.node).encodes (rest list a.state.now) b (rest list mid)) c.in-Some-false.field-0-test
    c.in-Some-false.ensures.read))
    last.ensures.did)

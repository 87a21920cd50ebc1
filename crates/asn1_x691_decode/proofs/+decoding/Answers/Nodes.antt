-- Answers for the decoders of src/decoder.rt.
use Rattle.std.proofs.Common.{ℕ, [], sym, ◌∙◌, ap, arith, Some}
use Rattle.asn1_bits.specs.Bits.{bits}
use Rattle.asn1_schema.specs.declared.tables.Node.{Node}
use Rattle.asn1_schema.specs.declared.tables.Node.TheVariants as type
use Rattle.asn1_schema.specs.Pieces.{Null, Parts}
use Rattle.asn1_schema.specs.Encodings.{Encoding, constant}
use Rattle.asn1_schema.specs.Reals.{IsReal}
use Rattle.asn1_schema.specs.Times.{IsTime}
use Rattle.asn1_x691.specs.declared.fault.FaultKind.{FaultKind}
use Rattle.asn1_x691_fields.specs.Outcomes.{position}
use Rattle.asn1_x691_fields.specs.Characters.{rows_of}
use Rattle.asn1_x691.specs.Fragments.{most_fragments}
use Rattle.asn1_x691_decode.specs.Decoding.{Outcome, IsDecoded}
use Rattle.asn1_x691_decode.proofs.Steps.{at_node, put_step, nothing_decoded}
use Rattle.asn1_x691.specs.Contents.{IsObjectIdentifier, IsRelativeIdentifier, IsUtf8Text}
use Rattle.asn1_x691.specs.Leaves.{integer_between_by, integer_at_least_by, integer, enumerated_by, bit_string, octet_string, text, contents, time}
use Rattle.asn1_x691_decode.proofs.Steps.{kept_outcome}
use Rattle.asn1_x691_decode.proofs.+decoding.Goals as goal

pub decode_node-returns-in-Null-clause-did : goal.decoder::decode_node-returns-in-Null-clause-did
decode_node-returns-in-Null-clause-did t c =
    let cx = c.args.context.now in
    let list = bits cx.octets.now in
    at_node cx c.args.node c.args.depth (Some type.Null)
    (λ (A : ℕ → Encoding FaultKind Parts). IsDecoded cx.tables.ranges.now (A (position c.args.state.now)).encodes list c.args.state.now c.push.new.state c.args.parts.now c.push.new.parts)
    (omega (arith, c.if-depth-eq0.false)) (sym c.in-Some.ensures ∙ ap (λ (n : Node). Some n) c.in-Null.is)
    ((put_step cx Null (λ at. constant []) c.args.state.now c.push.new.state c.args.parts.now c.push.new.parts c.requires.within
    (record { at = c.push.ensures.at; first = c.push.ensures.first; end = c.push.ensures.end }) (c.push.ensures.grown cx.tables.ranges.now list)).done
    c.push.new.state c.push.new.parts (nothing_decoded cx c.push.new.state c.push.new.parts))

pub decode_node-returns-in-Boolean-clause-did : goal.decoder::decode_node-returns-in-Boolean-clause-did
decode_node-returns-in-Boolean-clause-did t c =
    let cx = c.args.context.now in
    at_node cx c.args.node c.args.depth (Some type.Boolean)
    (λ (A : ℕ → Encoding FaultKind Parts). Outcome cx A c.args.state.now c.decode_boolean.new.state c.args.parts.now c.decode_boolean.new.parts
    c.decode_boolean.result)
    (omega (arith, c.if-depth-eq0.false)) (sym c.in-Some.ensures ∙ ap (λ (n : Node). Some n) c.in-Boolean.is)
    c.decode_boolean.ensures.did

pub decode_node-returns-in-Sequence-clause-did : goal.decoder::decode_node-returns-in-Sequence-clause-did
decode_node-returns-in-Sequence-clause-did t c =
    let cx = c.args.context.now in
    at_node cx c.args.node c.args.depth (Some (type.Sequence c.in-Sequence.root c.in-Sequence.is_extensible c.in-Sequence.additions))
    (λ (A : ℕ → Encoding FaultKind Parts). Outcome cx A c.args.state.now c.decode_sequence.new.state c.args.parts.now c.decode_sequence.new.parts
    c.decode_sequence.result)
    (omega (arith, c.if-depth-eq0.false))
    (sym c.in-Some.ensures ∙ ap (λ (n : Node). Some n) c.in-Sequence.is) c.decode_sequence.ensures.did

pub decode_node-returns-in-Open-clause-did : goal.decoder::decode_node-returns-in-Open-clause-did
decode_node-returns-in-Open-clause-did t c =
    let cx = c.args.context.now in
    at_node cx c.args.node c.args.depth (Some (type.Open c.in-Open.inner))
    (λ (A : ℕ → Encoding FaultKind Parts). Outcome cx A c.args.state.now c.decode_open.new.state c.args.parts.now c.decode_open.new.parts
    c.decode_open.result)
    (omega (arith, c.if-depth-eq0.false))
    (sym c.in-Some.ensures ∙ ap (λ (n : Node). Some n) c.in-Open.is) c.decode_open.ensures.did

pub decode_node-returns-in-Choice-clause-did : goal.decoder::decode_node-returns-in-Choice-clause-did
decode_node-returns-in-Choice-clause-did t c =
    let cx = c.args.context.now in
    let k = c.in-Choice in
    at_node cx c.args.node c.args.depth (Some (type.Choice k.alternatives k.is_extensible k.additions))
    (λ (B : ℕ → Encoding FaultKind Parts). Outcome cx B c.args.state.now c.decode_choice.new.state c.args.parts.now c.decode_choice.new.parts
    c.decode_choice.result)
    (omega (arith, c.if-depth-eq0.false)) (sym c.in-Some.ensures ∙ ap (λ (n : Node). Some n) k.is) c.decode_choice.ensures.did

pub decode_node-returns-in-SequenceOf-clause-did : goal.decoder::decode_node-returns-in-SequenceOf-clause-did
decode_node-returns-in-SequenceOf-clause-did t c =
    let cx = c.args.context.now in
    let k = c.in-SequenceOf in
    at_node cx c.args.node c.args.depth (Some (type.SequenceOf k.length k.is_extensible k.item))
    (λ (B : ℕ → Encoding FaultKind Parts). Outcome cx B c.args.state.now c.decode_list.new.state c.args.parts.now c.decode_list.new.parts
    c.decode_list.result)
    (omega (arith, c.if-depth-eq0.false)) (sym c.in-Some.ensures ∙ ap (λ (n : Node). Some n) k.is) c.decode_list.ensures.did

pub decode_node-returns-in-SetOf-clause-did : goal.decoder::decode_node-returns-in-SetOf-clause-did
decode_node-returns-in-SetOf-clause-did t c =
    let cx = c.args.context.now in
    let k = c.in-SetOf in
    let p = c.decode_list-in-SetOf in
    at_node cx c.args.node c.args.depth (Some (type.SetOf k.length k.is_extensible k.item))
    (λ (B : ℕ → Encoding FaultKind Parts). Outcome cx B c.args.state.now p.new.state c.args.parts.now p.new.parts p.result)
    (omega (arith, c.if-depth-eq0.false)) (sym c.in-Some.ensures ∙ ap (λ (n : Node). Some n) k.is) p.ensures.did

pub decode_node-returns-in-IntegerBetween-clause-did : goal.decoder::decode_node-returns-in-IntegerBetween-clause-did
decode_node-returns-in-IntegerBetween-clause-did t c =
    let cx = c.args.context.now in
    let k = c.in-IntegerBetween in
    let p = c.decode_integer_between in
    at_node cx c.args.node c.args.depth (Some (type.IntegerBetween k.bounds k.is_extensible))
    (λ (B : ℕ → Encoding FaultKind Parts). Outcome cx B c.args.state.now p.new.state c.args.parts.now p.new.parts p.result)
    (omega (arith, c.if-depth-eq0.false)) (sym c.in-Some.ensures ∙ ap (λ (n : Node). Some n) k.is) p.ensures.did

pub decode_node-returns-in-IntegerAtLeast-clause-did : goal.decoder::decode_node-returns-in-IntegerAtLeast-clause-did
decode_node-returns-in-IntegerAtLeast-clause-did t c =
    let cx = c.args.context.now in
    let k = c.in-IntegerAtLeast in
    let p = c.decode_integer_at_least in
    at_node cx c.args.node c.args.depth (Some (type.IntegerAtLeast k.bound k.is_extensible))
    (λ (B : ℕ → Encoding FaultKind Parts). Outcome cx B c.args.state.now p.new.state c.args.parts.now p.new.parts p.result)
    (omega (arith, c.if-depth-eq0.false)) (sym c.in-Some.ensures ∙ ap (λ (n : Node). Some n) k.is) p.ensures.did

pub decode_node-returns-in-Integer-clause-did : goal.decoder::decode_node-returns-in-Integer-clause-did
decode_node-returns-in-Integer-clause-did t c =
    let cx = c.args.context.now in
    let k = c.in-Integer in
    let p = c.decode_integer in
    at_node cx c.args.node c.args.depth (Some type.Integer)
    (λ (B : ℕ → Encoding FaultKind Parts). Outcome cx B c.args.state.now p.new.state c.args.parts.now p.new.parts p.result)
    (omega (arith, c.if-depth-eq0.false)) (sym c.in-Some.ensures ∙ ap (λ (n : Node). Some n) k.is) p.ensures.did

pub decode_node-returns-in-Enumerated-clause-did : goal.decoder::decode_node-returns-in-Enumerated-clause-did
decode_node-returns-in-Enumerated-clause-did t c =
    let cx = c.args.context.now in
    let k = c.in-Enumerated in
    let p = c.decode_enumerated in
    at_node cx c.args.node c.args.depth (Some (type.Enumerated k.last k.is_extensible k.additions))
    (λ (B : ℕ → Encoding FaultKind Parts). Outcome cx B c.args.state.now p.new.state c.args.parts.now p.new.parts p.result)
    (omega (arith, c.if-depth-eq0.false)) (sym c.in-Some.ensures ∙ ap (λ (n : Node). Some n) k.is) p.ensures.did

pub decode_node-returns-in-BitString-clause-did : goal.decoder::decode_node-returns-in-BitString-clause-did
decode_node-returns-in-BitString-clause-did t c =
    let cx = c.args.context.now in
    let k = c.in-BitString in
    let p = c.decode_bit_string in
    at_node cx c.args.node c.args.depth (Some (type.BitString k.length k.is_extensible k.has_names))
    (λ (B : ℕ → Encoding FaultKind Parts). Outcome cx B c.args.state.now p.new.state c.args.parts.now p.new.parts p.result)
    (omega (arith, c.if-depth-eq0.false)) (sym c.in-Some.ensures ∙ ap (λ (n : Node). Some n) k.is) p.ensures.did

pub decode_node-returns-in-OctetString-clause-did : goal.decoder::decode_node-returns-in-OctetString-clause-did
decode_node-returns-in-OctetString-clause-did t c =
    let cx = c.args.context.now in
    let k = c.in-OctetString in
    let p = c.decode_octet_string in
    at_node cx c.args.node c.args.depth (Some (type.OctetString k.length k.is_extensible))
    (λ (B : ℕ → Encoding FaultKind Parts). Outcome cx B c.args.state.now p.new.state c.args.parts.now p.new.parts p.result)
    (omega (arith, c.if-depth-eq0.false)) (sym c.in-Some.ensures ∙ ap (λ (n : Node). Some n) k.is) p.ensures.did

pub decode_node-returns-in-Text-clause-did : goal.decoder::decode_node-returns-in-Text-clause-did
decode_node-returns-in-Text-clause-did t c =
    let cx = c.args.context.now in
    let k = c.in-Text in
    let p = c.decode_text in
    at_node cx c.args.node c.args.depth (Some (type.Text k.length k.is_extensible k.alphabet k.whole))
    (λ (B : ℕ → Encoding FaultKind Parts). Outcome cx B c.args.state.now p.new.state c.args.parts.now p.new.parts p.result)
    (omega (arith, c.if-depth-eq0.false)) (sym c.in-Some.ensures ∙ ap (λ (n : Node). Some n) k.is) p.ensures.did

pub decode_node-returns-in-ObjectIdentifier-clause-did : goal.decoder::decode_node-returns-in-ObjectIdentifier-clause-did
decode_node-returns-in-ObjectIdentifier-clause-did t c =
    let cx = c.args.context.now in
    let k = c.in-ObjectIdentifier in
    let p = c.decode_object_identifier in
    at_node cx c.args.node c.args.depth (Some type.ObjectIdentifier)
    (λ (B : ℕ → Encoding FaultKind Parts). Outcome cx B c.args.state.now p.new.state c.args.parts.now p.new.parts p.result)
    (omega (arith, c.if-depth-eq0.false)) (sym c.in-Some.ensures ∙ ap (λ (n : Node). Some n) k.is) p.ensures.did

pub decode_node-returns-in-RelativeIdentifier-clause-did : goal.decoder::decode_node-returns-in-RelativeIdentifier-clause-did
decode_node-returns-in-RelativeIdentifier-clause-did t c =
    let cx = c.args.context.now in
    let k = c.in-RelativeIdentifier in
    let p = c.decode_relative_identifier in
    at_node cx c.args.node c.args.depth (Some type.RelativeIdentifier)
    (λ (B : ℕ → Encoding FaultKind Parts). Outcome cx B c.args.state.now p.new.state c.args.parts.now p.new.parts p.result)
    (omega (arith, c.if-depth-eq0.false)) (sym c.in-Some.ensures ∙ ap (λ (n : Node). Some n) k.is) p.ensures.did

pub decode_node-returns-in-Utf8String-clause-did : goal.decoder::decode_node-returns-in-Utf8String-clause-did
decode_node-returns-in-Utf8String-clause-did t c =
    let cx = c.args.context.now in
    let k = c.in-Utf8String in
    let p = c.decode_utf8_string in
    at_node cx c.args.node c.args.depth (Some type.Utf8String)
    (λ (B : ℕ → Encoding FaultKind Parts). Outcome cx B c.args.state.now p.new.state c.args.parts.now p.new.parts p.result)
    (omega (arith, c.if-depth-eq0.false)) (sym c.in-Some.ensures ∙ ap (λ (n : Node). Some n) k.is) p.ensures.did

pub decode_node-returns-in-Real-clause-did : goal.decoder::decode_node-returns-in-Real-clause-did
decode_node-returns-in-Real-clause-did t c =
    let cx = c.args.context.now in
    let k = c.in-Real in
    let p = c.decode_real in
    at_node cx c.args.node c.args.depth (Some type.Real)
    (λ (B : ℕ → Encoding FaultKind Parts). Outcome cx B c.args.state.now p.new.state c.args.parts.now p.new.parts p.result)
    (omega (arith, c.if-depth-eq0.false)) (sym c.in-Some.ensures ∙ ap (λ (n : Node). Some n) k.is) p.ensures.did

pub decode_node-returns-in-Time-clause-did : goal.decoder::decode_node-returns-in-Time-clause-did
decode_node-returns-in-Time-clause-did t c =
    let cx = c.args.context.now in
    let k = c.in-Time in
    let p = c.decode_time in
    at_node cx c.args.node c.args.depth (Some (type.Time k.kind))
    (λ (B : ℕ → Encoding FaultKind Parts). Outcome cx B c.args.state.now p.new.state c.args.parts.now p.new.parts p.result)
    (omega (arith, c.if-depth-eq0.false)) (sym c.in-Some.ensures ∙ ap (λ (n : Node). Some n) k.is) p.ensures.did

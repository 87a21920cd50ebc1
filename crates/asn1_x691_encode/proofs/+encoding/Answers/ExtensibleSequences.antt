-- Answers for the encoders of a SEQUENCE with an extension marker, of src/sequence.rt.
use Rattle.std.proofs.Common.{◌+◌, ◌∷◌, [], true, refl, sym, ◌∙◌, ap, inl}
use Rattle.asn1_schema.specs.declared.part.Part.{Part}
use Rattle.asn1_schema.specs.Encodings.{constant}
use Rattle.asn1_schema.specs.Pieces.{Sequence}
use Rattle.asn1_schema.specs.TypeEncodings.{put}
use Rattle.asn1_x691.specs.Types.{IsExtended}
use Rattle.asn1_x691.specs.Limits.{no_limits}
use Rattle.asn1_x691_writers.specs.GrownSteps.{grown_none}
use Rattle.asn1_x691_writers.specs.Put.{piece_in}
use Rattle.asn1_x691_encode.specs.Encoding.{defaults_in, tape, types, sequence_in, extensible_sequence_in, extended_in, extension_in, root_in}
use Rattle.asn1_x691_encode.specs.ExtensionSteps.{root_step, added_step}
use Rattle.asn1_x691_encode.specs.LeafSteps.{after_none, part_next}
use Rattle.asn1_x691_encode.specs.ListSteps.{both_step, both_fails, part_step, underway_on}
use Rattle.asn1_x691_encode.proofs.+encoding.Goals as goal

pub encode_extended-returns-then-not-encode_root : goal.sequence::encode_extended-returns-then-not-encode_root
encode_extended-returns-then-not-encode_root t c =
    let a = c.args in
    let cx = a.context.now in
    both_fails cx (root_in cx a.depth a.node a.root) (extension_in cx a.depth a.node a.known) a.octets.now
    c.encode_root.new.octets a.state.now c.encode_root.new.state (c.if-not-encode_root.ensures)

pub encode_extended-returns : goal.sequence::encode_extended-returns
encode_extended-returns t c =
    let a = c.args in
    let cx = a.context.now in
    let last = c.encode_extension in
    (both_step cx (root_in cx a.depth a.node a.root) (extension_in cx a.depth a.node a.known) a.octets.now
    c.encode_root.new.octets a.state.now c.encode_root.new.state (c.if-not-encode_root.ensures)).onward
    last.new.octets last.new.state last.result (last.ensures)

pub encode_extensible_sequence-returns-in-None : goal.sequence::encode_extensible_sequence-returns-in-None
encode_extensible_sequence-returns-in-None t c =
    let a = c.args in
    let cx = a.context.now in
    let k = c.reject in
    after_none cx (extensible_sequence_in cx a.depth a.node a.root a.known) a.octets.now a.octets.now a.state.now k.new.state k.result a.node
    (sym c.part_at.ensures ∙ c.in-None.is) k.ensures.result k.ensures.next k.ensures.node k.ensures.reason (λ at. inl refl)

pub encode_extensible_sequence-returns-else-is_sequence : goal.sequence::encode_extensible_sequence-returns-else-is_sequence
encode_extensible_sequence-returns-else-is_sequence t c =
    let a = c.args in
    let cx = a.context.now in
    let bit = c.put_bit-state-in-Some in
    let last = c.encode_sequence in
    (root_step cx a.node
    (IsExtended no_limits cx.is_aligned (types cx a.depth) cx.tables.members.now cx.tables.ranges.now (defaults_in cx) a.node a.root)
    (sequence_in cx a.depth a.node a.root) (put (Sequence a.root.count true) (extended_in cx a.depth a.node a.root a.known) a.node)
    c.in-Some.part a.octets.now bit.new.octets a.state.now bit.result (sym c.part_at.ensures ∙ c.in-Some.is)
    (bit.ensures cx.is_aligned a.node)
    (c.is_sequence.ensures.other cx.tables.ranges.now cx.source.now c.if-is_sequence.false)).onward
    last.new.octets last.new.state last.result (last.ensures)

pub encode_extensible_sequence-returns-then-is_sequence : goal.sequence::encode_extensible_sequence-returns-then-is_sequence
encode_extensible_sequence-returns-then-is_sequence t c =
    let a = c.args in
    let cx = a.context.now in
    let old = a.state.now in
    let bit = c.put_bit-state in
    let mid = record old { at = bit.result } in
    let begun = record old { at = bit.result; next = old.next + 1 } in
    let last = c.encode_extended in
    let is = sym c.part_at.ensures ∙ c.in-Some.is in
    let e = c.is_sequence.ensures.is c.if-is_sequence.true in
    let p = Sequence a.root.count true in
    let W = extensible_sequence_in cx a.depth a.node a.root a.known in
    let X = extended_in cx a.depth a.node a.root a.known in
    (underway_on cx W (put p X a.node) X a.octets.now bit.new.octets bit.new.octets old mid begun
    (added_step cx a.node
    (IsExtended no_limits cx.is_aligned (types cx a.depth) cx.tables.members.now cx.tables.ranges.now (defaults_in cx) a.node a.root)
    (sequence_in cx a.depth a.node a.root) (put p X a.node) c.in-Some.part a.octets.now bit.new.octets old bit.result is
    (bit.ensures cx.is_aligned a.node) (ap (piece_in cx.tables.ranges.now cx.source.now) e))
    (part_step cx (λ at. constant tt) (λ u. p) (λ u. X) a.node tt bit.new.octets bit.new.octets mid begun
    (record { list = []; encodes = λ at h. (refl, refl); grown = grown_none bit.new.octets mid.at })
    (part_next cx old.next c.in-Some.part is
    ∙ ap (λ (q : Part). piece_in cx.tables.ranges.now cx.source.now q ∷ tape cx (old.next + 1)) e))).onward
    last.new.octets last.new.state last.result (last.ensures)

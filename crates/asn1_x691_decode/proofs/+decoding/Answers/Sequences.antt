-- Answers for the decoders of src/sequence.rt.
use Rattle.std.proofs.Common.{◌≡◌, ℕ, ◌+◌, ◌-◌, ◌∷◌, List, Bool, true, false, sym, ◌∙◌, ap, subst, arith, inl}
use Rattle.asn1_bits.specs.Bits.{bits}
use Rattle.asn1_bits.specs.Laws.DigitLaws.{length-bits}
use Rattle.asn1_schema.specs.Pieces.{Absent, Sequence, Parts}
use Rattle.asn1_schema.specs.PiecesOfParts.{bits_at}
use Rattle.asn1_schema.specs.Fields.{raw_bits}
use Rattle.asn1_schema.specs.Encodings.{Encoding, Starts}
use Rattle.asn1_x691.specs.declared.fault.FaultKind.{FaultKind}
use Rattle.asn1_x691.specs.declared.fault.FaultKind.TheVariants.{NoNode, Short}
use Rattle.asn1_x691.specs.Types.{optional_count}
use Rattle.asn1_x691_fields.specs.Outcomes.{rest, position, fault_of}
use Rattle.asn1_x691_fields.specs.Steps.{within_after, moved_over, moved_on, fault_at}
use Rattle.asn1_x691_decode.specs.Decoding.{Outcome, IsDecoded, extension_in, component_in, components_in, root_in, sequence_in, told_by}
use Rattle.asn1_x691_decode.proofs.Steps.{IsSamePlace, same_within, put_step, value_step, header_step, component_step, component_fault, no_member, bits_left, no_components, over, fails_on, outcome_on, by_true, by_false, absent_of, part_decoded, told_after}
use Rattle.asn1_schema.specs.TypeEncodings.{both}
use Rattle.asn1_x691_decode.proofs.SequenceSteps.{after_bit, bit_step, after_false, after_true}
use Rattle.asn1_x691_decode.proofs.PresenceSteps.{told_length}
use Rattle.asn1_x691_decode.proofs.+decoding.Goals as goal

pub decode_component-returns-in-Some-false : goal.sequence::decode_component-returns-in-Some-false
decode_component-returns-in-Some-false t c =
    let cx = c.args.context.now in
    let list = bits cx.octets.now in
    let was = told_by list c.args.presence.now in
    let now = told_by list c.next_presence.new.presence in
    let told : was ≡ false ∷ now = c.in-Some-false.ensures.told ∙ ap (λ (b : Bool). b ∷ now) c.in-Some-false.field-0-test in
    record {
      moved = record {
        same_first = c.push.ensures.first;
        same_end = c.push.ensures.end;
        on = omega (arith, c.push.ensures.at);
        ends = omega (arith, c.push.ensures.at, c.push.ensures.end, c.requires.within.ends);
        inside = omega (arith, c.push.ensures.end, c.requires.within.inside);
      };
      bits = c.next_presence.ensures.within;
      did = absent_of cx c.args.depth c.args.node c.args.member.presence c.args.member.node was now
          (λ (A : Encoding FaultKind Parts). IsDecoded cx.tables.ranges.now A.encodes list c.args.state.now c.push.new.state c.args.parts.now c.push.new.parts)
          (position c.args.state.now) c.in_default.not-Mandatory told
          (part_decoded cx Absent c.args.state.now c.push.new.state c.args.parts.now c.push.new.parts
          (record { at = c.push.ensures.at; first = c.push.ensures.first; end = c.push.ensures.end }) (c.push.ensures.grown cx.tables.ranges.now list));
      told = λ e. told_after c.args.member.presence was now false c.in_default.not-Mandatory told;
    }

pub decode_components-returns-then-not-decode_component-clause-did : goal.sequence::decode_components-returns-then-not-decode_component-clause-did
decode_components-returns-then-not-decode_component-clause-did t c =
    let cx = c.args.context.now in
    let list = bits cx.octets.now in
    let l = c.loop-index in
    let m = c.member_in-member.result in
    let A : ℕ → Encoding FaultKind Parts =
    component_in cx c.args.depth c.args.node m.presence m.node (told_by list l.presence) in
    let B : ℕ → ℕ → ℕ → Encoding FaultKind Parts =
    λ count from at. (components_in cx c.args.depth c.args.node count from at).after (told_by list l.presence) in
    fails_on cx
    (λ at. (components_in cx c.args.depth c.args.node c.args.root.count c.args.root.from at).after (told_by list c.args.presence))
    (B (c.args.root.count - l.index) (c.args.root.from + l.index)) c.args.state.now l.state c.decode_component.new.state c.args.parts.now l.parts
    c.decode_component.new.parts l.invariant.3
    (component_fault cx c.args.depth c.args.node c.args.root.count c.args.root.from l.index m (told_by list l.presence)
    (position l.state) (rest list l.state) (fault_of c.decode_component.new.state)
    (omega (arith, c.loop-index-test.true, c.known_of-known.ensures.few)) c.member_in-member.ensures (by_false cx A l.state c.decode_component.new.state l.parts c.decode_component.new.parts c.decode_component.result
    c.if-not-decode_component.true c.decode_component.ensures.did))

pub decode_components-loop-index-preserved : goal.sequence::decode_components-loop-index-preserved
decode_components-loop-index-preserved t c =
    let cx = c.args.context.now in
    let list = bits cx.octets.now in
    let l = c.loop-index in
    let m = c.member_in-member.result in
    let now = c.decode_component.new in
    let A : ℕ → Encoding FaultKind Parts =
    component_in cx c.args.depth c.args.node m.presence m.node (told_by list l.presence) in
    let B : ℕ → ℕ → List Bool → ℕ → Encoding FaultKind Parts =
    λ count from p at. (components_in cx c.args.depth c.args.node count from at).after p in (
      within_after list l.state now.state l.invariant.0 c.decode_component.ensures.moved,
      moved_over list c.args.state.now l.state now.state l.invariant.1 c.decode_component.ensures.moved,
      c.decode_component.ensures.bits,
      over cx (B c.args.root.count c.args.root.from (told_by list c.args.presence))
          (B (c.args.root.count - l.index) (c.args.root.from + l.index) (told_by list l.presence))
          (B (c.args.root.count - (l.index + 1)) (c.args.root.from + (l.index + 1)) (told_by list now.presence))
          c.args.state.now l.state now.state c.args.parts.now l.parts now.parts l.invariant.3
          (component_step cx c.args.depth c.args.node c.args.root.count c.args.root.from l.index m (told_by list l.presence)
          (told_by list now.presence) l.state now.state l.parts now.parts
          (omega (arith, c.loop-index-test.true, c.known_of-known.ensures.few)) c.member_in-member.ensures l.invariant.0
          c.decode_component.ensures.moved
          (by_true cx A l.state now.state l.parts now.parts c.decode_component.result c.if-not-decode_component.false
          c.decode_component.ensures.did)
          (c.decode_component.ensures.told c.if-not-decode_component.false)),
    )

pub decode_components-returns-then-known-root-clause-did : goal.sequence::decode_components-returns-then-known-root-clause-did
decode_components-returns-then-known-root-clause-did t c =
    let cx = c.args.context.now in
    let list = bits cx.octets.now in
    let l = c.loop-index in
    l.invariant.3.fault (fault_of c.fail.new.state)
    (no_member cx c.args.depth c.args.node (c.args.root.count - l.index) (c.args.root.from + l.index) (told_by list l.presence)
    (position l.state) (rest list l.state) (fault_of c.fail.new.state)
    (omega (arith, c.loop-index.auto.index-end, c.if-known-root.true))
    (omega (arith, c.known_of-known.ensures.all c.if-known-root.true, c.loop-index-test.false))
    (fault_at list l.state c.fail.new.state c.args.node NoNode l.invariant.0.inside c.fail.ensures.at c.fail.ensures.end
    c.fail.ensures.node c.fail.ensures.kind))

pub decode_components-returns-then-presence-gt0-clause-did : goal.sequence::decode_components-returns-then-presence-gt0-clause-did
decode_components-returns-then-presence-gt0-clause-did t c =
    let cx = c.args.context.now in
    let list = bits cx.octets.now in
    let l = c.loop-index in
    let f = c.fail-then-presence-gt0 in
    l.invariant.3.fault (fault_of f.new.state)
    (bits_left cx c.args.depth c.args.node (c.args.root.count - l.index) (c.args.root.from + l.index) (told_by list l.presence)
    (position l.state) (rest list l.state) (fault_of f.new.state)
    (omega (arith, c.loop-index-test.false, c.if-known-root.false))
    (omega (arith, told_length list l.presence (omega (arith, length-bits cx.octets.now, l.invariant.2)), c.if-presence-gt0.true))
    (fault_at list l.state f.new.state c.args.node NoNode l.invariant.0.inside f.ensures.at f.ensures.end f.ensures.node f.ensures.kind))

pub decode_components-returns-clause-did : goal.sequence::decode_components-returns-clause-did
decode_components-returns-clause-did t c =
    let cx = c.args.context.now in
    let list = bits cx.octets.now in
    let l = c.loop-index in
    l.invariant.3.done l.state l.parts
    (no_components cx c.args.depth c.args.node (c.args.root.count - l.index) (c.args.root.from + l.index) (told_by list l.presence)
    l.state l.parts
    (omega (arith, c.loop-index-test.false, c.if-known-root.false))
    (omega (arith, told_length list l.presence (omega (arith, length-bits cx.octets.now, l.invariant.2)), c.if-presence-gt0.false)))

pub decode_root-returns-in-Some-clause-did : goal.sequence::decode_root-returns-in-Some-clause-did
decode_root-returns-in-Some-clause-did t c =
    let cx = c.args.context.now in
    let list = bits cx.octets.now in
    let B : List Bool → ℕ → Encoding FaultKind Parts =
    λ p at. (components_in cx c.args.depth c.args.node c.args.root.count c.args.root.from at).after p in
    let told = bits_at list c.in-Some.at c.count_optional-left.result in
    let k = optional_count cx.tables.members.now c.args.root.count c.args.root.from in
    let R : ℕ → Encoding FaultKind Parts = λ at. (root_in cx c.args.depth c.args.node c.args.root at).encoding in
    outcome_on cx R (B told) c.args.state.now c.next_bits.new.state c.decode_components.new.state c.args.parts.now c.args.parts.now
    c.decode_components.new.parts c.decode_components.result
    (header_step cx (λ at. raw_bits k Short c.args.node) B c.args.state.now c.next_bits.new.state c.args.parts.now told c.requires.within
    c.next_bits.ensures.onward
    (subst (λ (n : ℕ). Starts (raw_bits n Short c.args.node).encodes (rest list c.args.state.now) told (rest list c.next_bits.new.state))
    c.count_optional-left.ensures c.in-Some.ensures.read))
    c.decode_components.ensures.did

pub decode_sequence-returns-then-not-is_extensible-clause-did : goal.sequence::decode_sequence-returns-then-not-is_extensible-clause-did
decode_sequence-returns-then-not-is_extensible-clause-did t c =
    let cx = c.args.context.now in
    let list = bits cx.octets.now in
    let R : ℕ → Encoding FaultKind Parts = λ at. (root_in cx c.args.depth c.args.node c.args.root at).encoding in
    let S : Bool → ℕ → Encoding FaultKind Parts = λ b at. (sequence_in cx c.args.depth c.args.node b c.args.root c.args.additions at).encoding in
    subst (λ (b : Bool). Outcome cx (S b) c.args.state.now c.decode_root.new.state c.args.parts.now c.decode_root.new.parts c.decode_root.result)
    (sym c.if-not-is_extensible.true)
    (outcome_on cx (S false) R c.args.state.now c.push.new.state c.decode_root.new.state c.args.parts.now c.push.new.parts c.decode_root.new.parts
    c.decode_root.result
    (put_step cx (Sequence c.args.root.count false) R c.args.state.now c.push.new.state c.args.parts.now c.push.new.parts c.requires.within
    (record { at = c.push.ensures.at; first = c.push.ensures.first; end = c.push.ensures.end }) (c.push.ensures.grown cx.tables.ranges.now list))
    c.decode_root.ensures.did)

pub decode_sequence-returns-then-not-is_extended-clause-did : goal.sequence::decode_sequence-returns-then-not-is_extended-clause-did
decode_sequence-returns-then-not-is_extended-clause-did t c =
    let cx = c.args.context.now in
    let list = bits cx.octets.now in
    let a = c.args in
    let b = c.in-Some.bit in
    let mid = c.next_bit.new.state in
    let now = c.push-2.new in
    let root = c.decode_root-then-not-is_extended in
    let within = within_after list a.state.now mid c.requires.within (moved_on list a.state.now mid c.next_bit.ensures.onward) in
    let S : Bool → ℕ → Encoding FaultKind Parts = λ x at. (sequence_in cx a.depth a.node x a.root a.additions at).encoding in
    let R : ℕ → Encoding FaultKind Parts = λ at. (root_in cx a.depth a.node a.root at).encoding in
    let B = after_bit cx a.depth a.node a.root a.additions b in
    subst (λ (x : Bool). Outcome cx (S x) a.state.now root.new.state a.parts.now root.new.parts root.result)
    (sym c.if-not-is_extensible.false)
    (outcome_on cx (S true) R a.state.now now.state root.new.state a.parts.now now.parts root.new.parts root.result
    (over cx (S true) B R a.state.now mid now.state a.parts.now a.parts.now now.parts
    (bit_step cx a.depth a.node a.root a.additions b a.state.now mid a.parts.now c.requires.within c.next_bit.ensures.onward c.in-Some.ensures.read)
    (after_false cx a.depth a.node a.root a.additions b mid now.state a.parts.now now.parts c.if-not-is_extended.true within
    (record { at = c.push-2.ensures.at; first = c.push-2.ensures.first; end = c.push-2.ensures.end }) (c.push-2.ensures.grown cx.tables.ranges.now list)))
    root.ensures.did)

pub decode_sequence-returns-then-not-decode_root-clause-did : goal.sequence::decode_sequence-returns-then-not-decode_root-clause-did
decode_sequence-returns-then-not-decode_root-clause-did t c =
    let cx = c.args.context.now in
    let list = bits cx.octets.now in
    let a = c.args in
    let b = c.in-Some.bit in
    let mid = c.next_bit.new.state in
    let now = c.push-2.new in
    let root = c.decode_root-2 in
    let within = within_after list a.state.now mid c.requires.within (moved_on list a.state.now mid c.next_bit.ensures.onward) in
    let same : IsSamePlace mid now.state =
    record { at = c.push-2.ensures.at; first = c.push-2.ensures.first; end = c.push-2.ensures.end } in
    let S : Bool → ℕ → Encoding FaultKind Parts = λ x at. (sequence_in cx a.depth a.node x a.root a.additions at).encoding in
    let R = root_in cx a.depth a.node a.root in
    let R1 : ℕ → Encoding FaultKind Parts = λ at. (R at).encoding in
    let X = extension_in cx a.depth a.node a.additions in
    let X1 : ℕ → Encoding FaultKind Parts = λ at. (X at).encoding in
    let RX : ℕ → Encoding FaultKind Parts = λ at. (both R X at).encoding in
    let B = after_bit cx a.depth a.node a.root a.additions b in
    let begun =
    over cx (S true) B RX a.state.now mid now.state a.parts.now a.parts.now now.parts
    (bit_step cx a.depth a.node a.root a.additions b a.state.now mid a.parts.now c.requires.within c.next_bit.ensures.onward c.in-Some.ensures.read)
    (after_true cx a.depth a.node a.root a.additions b mid now.state a.parts.now now.parts c.if-not-is_extended.false within same
    (c.push-2.ensures.grown cx.tables.ranges.now list)) in
    subst (λ (x : Bool). (S x (position a.state.now)).fault (rest list a.state.now) (fault_of root.new.state))
    (sym c.if-not-is_extensible.false)
    (fails_on cx (S true) RX a.state.now now.state root.new.state a.parts.now now.parts root.new.parts begun
    (inl (by_false cx R1 now.state root.new.state now.parts root.new.parts root.result c.if-not-decode_root.true root.ensures.did)))

pub decode_sequence-returns-clause-did : goal.sequence::decode_sequence-returns-clause-did
decode_sequence-returns-clause-did t c =
    let cx = c.args.context.now in
    let list = bits cx.octets.now in
    let a = c.args in
    let b = c.in-Some.bit in
    let mid = c.next_bit.new.state in
    let now = c.push-2.new in
    let root = c.decode_root-2 in
    let within = within_after list a.state.now mid c.requires.within (moved_on list a.state.now mid c.next_bit.ensures.onward) in
    let same : IsSamePlace mid now.state =
    record { at = c.push-2.ensures.at; first = c.push-2.ensures.first; end = c.push-2.ensures.end } in
    let S : Bool → ℕ → Encoding FaultKind Parts = λ x at. (sequence_in cx a.depth a.node x a.root a.additions at).encoding in
    let R = root_in cx a.depth a.node a.root in
    let R1 : ℕ → Encoding FaultKind Parts = λ at. (R at).encoding in
    let X = extension_in cx a.depth a.node a.additions in
    let X1 : ℕ → Encoding FaultKind Parts = λ at. (X at).encoding in
    let RX : ℕ → Encoding FaultKind Parts = λ at. (both R X at).encoding in
    let B = after_bit cx a.depth a.node a.root a.additions b in
    let begun =
    over cx (S true) B RX a.state.now mid now.state a.parts.now a.parts.now now.parts
    (bit_step cx a.depth a.node a.root a.additions b a.state.now mid a.parts.now c.requires.within c.next_bit.ensures.onward c.in-Some.ensures.read)
    (after_true cx a.depth a.node a.root a.additions b mid now.state a.parts.now now.parts c.if-not-is_extended.false within same
    (c.push-2.ensures.grown cx.tables.ranges.now list)) in
    let last = c.decode_extension in
    subst (λ (x : Bool). Outcome cx (S x) a.state.now last.new.state a.parts.now last.new.parts last.result) (sym c.if-not-is_extensible.false)
    (outcome_on cx (S true) X1 a.state.now root.new.state last.new.state a.parts.now root.new.parts last.new.parts last.result
    (over cx (S true) RX X1 a.state.now now.state root.new.state a.parts.now now.parts root.new.parts begun
    (value_step cx R1 X1 now.state root.new.state now.parts root.new.parts (same_within list mid now.state same within) root.ensures.moved
    (by_true cx R1 now.state root.new.state now.parts root.new.parts root.result c.if-not-decode_root.false root.ensures.did)))
    last.ensures.did)

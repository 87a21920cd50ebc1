-- Answers for the decoders of src/sequence.rt.
use Rattle.std.proofs.Common.{◌≡◌, ◌+◌, List, [], ◌∷◌, Bool, true, false, length, refl, sym, ◌∙◌, ap, subst, arith, inr, Some}
use Rattle.asn1_bits.specs.Bits.{bits}
use Rattle.asn1_bits.specs.Laws.DigitLaws.{length-bits}
use Rattle.asn1_schema.specs.Pieces.{Absent, Sequence}
use Rattle.asn1_x690.specs.declared.fault.FaultKind.TheVariants.{Extra, DefaultValue}
use Rattle.asn1_x690_fields.specs.declared.state.State.{State}
use Rattle.asn1_x690_fields.specs.Outcomes.{rest, fault_of}
use Rattle.asn1_x690_fields.specs.Steps.{rest_length}
use Rattle.asn1_x690_decode.specs.Tables.{types, elements}
use Rattle.asn1_x690_decode.specs.Members.{AreSteps, StepsFault, IsComponent, ComponentFault, IsMember, MemberFault}
use Rattle.asn1_x690_decode.specs.Decoding.{ContentsOutcome}
use Rattle.asn1_x690_decode.proofs.StateSteps.{grown_over, fault_here, none_moved, moved_over, front_is, by_true, by_false}
use Rattle.asn1_x690_decode.proofs.ElementSteps.{element_found}
use Rattle.asn1_x690_decode.proofs.SequenceSteps.{Whole, root_fault, root_done, extra_fault, extended_outcome}
use Rattle.asn1_x690_decode.proofs.MemberSteps.{begins as begins_members, goes_on as next_member, fails as member_fails, ends as members_end}
use Rattle.asn1_x690_decode.proofs.ValueSteps.{other_value, default_fault, of_member, required_outcome}
use Rattle.asn1_x690_decode.proofs.+decoding.Goals as goal

pub decode_members-loop-index-init : goal.sequence::decode_members-loop-index-init
decode_members-loop-index-init t c =
    let a = c.args in
    let context = a.context.now in
    record {
      moved = none_moved (bits context.octets.now) a.state.now a.state.now c.requires.within refl refl;
      underway = begins_members (IsMember context a.depth a.node a.are_additions) (MemberFault context a.depth a.node a.are_additions)
          a.rows.count a.rows.from context.tables.ranges.now (bits context.octets.now) a.state.now a.parts.now;
    }

pub decode_members-loop-index-preserved : goal.sequence::decode_members-loop-index-preserved
decode_members-loop-index-preserved t c =
    let a = c.args in
    let context = a.context.now in
    let list = bits context.octets.now in
    let l = c.loop-index in
    let d = c.decode_member in
    record {
      moved = moved_over list a.state.now l.state d.new.state l.invariant.moved d.ensures.moved;
      underway = next_member (IsMember context a.depth a.node a.are_additions) (MemberFault context a.depth a.node a.are_additions)
          a.rows.count a.rows.from context.tables.ranges.now list a.state.now l.state a.parts.now l.parts l.index l.invariant.underway
          c.loop-index-test.true d.new.state d.new.parts
          (by_true context (IsMember context a.depth a.node a.are_additions (a.rows.from + l.index))
          (MemberFault context a.depth a.node a.are_additions (a.rows.from + l.index)) l.state d.new.state l.parts d.new.parts d.result
          c.if-not-decode_member.false d.ensures.did);
    }

pub decode_members-returns-then-not-decode_member-clause-did : goal.sequence::decode_members-returns-then-not-decode_member-clause-did
decode_members-returns-then-not-decode_member-clause-did t c =
    let a = c.args in
    let context = a.context.now in
    let list = bits context.octets.now in
    let l = c.loop-index in
    let d = c.decode_member in
    member_fails (IsMember context a.depth a.node a.are_additions) (MemberFault context a.depth a.node a.are_additions)
    a.rows.count a.rows.from context.tables.ranges.now list a.state.now l.state a.parts.now l.parts l.index l.invariant.underway
    c.loop-index-test.true (fault_of d.new.state)
    (by_false context (IsMember context a.depth a.node a.are_additions (a.rows.from + l.index))
    (MemberFault context a.depth a.node a.are_additions (a.rows.from + l.index)) l.state d.new.state l.parts d.new.parts d.result
    c.if-not-decode_member.true d.ensures.did)

pub decode_members-returns-clause-did : goal.sequence::decode_members-returns-clause-did
decode_members-returns-clause-did t c =
    let a = c.args in
    let context = a.context.now in
    let l = c.loop-index in
    let past = c.loop-index-test.false in
    let most = l.auto.index-end in
    members_end (IsMember context a.depth a.node a.are_additions) (MemberFault context a.depth a.node a.are_additions)
    a.rows.count a.rows.from context.tables.ranges.now (bits context.octets.now) a.state.now l.state a.parts.now l.parts l.index
    l.invariant.underway (omega (arith, past, most))

pub decode_component-returns-else-begins_with-clause-did : goal.sequence::decode_component-returns-else-begins_with-clause-did
decode_component-returns-else-begins_with-clause-did t c =
    let a = c.args in
    let context = a.context.now in
    let list = bits context.octets.now in
    let s = a.state.now in
    let m = c.in-Some.member.now in
    let first = c.in-Some-first_at.first.now in
    record {
      parts = Absent ∷ [];
      are = of_member context a.depth a.node false m first (a.from + a.index) (sym c.in-Some.ensures)
          (sym c.in-Some-first_at.ensures) (sym c.is_required.ensures ∙ c.if-is_required.false) (rest list s)
          (Absent ∷ []) (rest list s) (inr (c.begins_with.ensures.no c.if-begins_with.false, refl, refl));
      grown = c.push_part-state.ensures.grown context.tables.ranges.now list;
    }

pub decode_component-returns-then-is_required-clause-did : goal.sequence::decode_component-returns-then-is_required-clause-did
decode_component-returns-then-is_required-clause-did t c =
    let a = c.args in
    let context = a.context.now in
    let list = bits context.octets.now in
    let s = a.state.now in
    let d = c.decode_element in
    let m = c.in-Some.member.now in
    let within = c.requires.within in
    let size = rest_length list s within.inside in
    let more = c.if-state.false in
    required_outcome context a.depth a.node s d.new.state a.parts.now d.new.parts
    (λ e. more (let none : length (rest list s) ≡ 0 = ap length e in omega (arith, size, none, within.ends)))
    m (a.from + a.index) (sym c.in-Some.ensures) (sym c.is_required.ensures ∙ c.if-is_required.true) d.result
    d.ensures.did

pub decode_value-is_default-requires-clause-inside : goal.sequence::decode_value-is_default-requires-clause-inside
decode_value-is_default-requires-clause-inside t c =
    let m = c.decode_element.ensures.moved in
    let ends = m.ends in
    let inside = m.inside in
    omega (arith, length-bits c.args.context.now.octets.now, ends, inside)

pub decode_value-returns-then-is_default-clause-did : goal.sequence::decode_value-returns-then-is_default-clause-did
decode_value-returns-then-is_default-clause-did t c =
    let a = c.args in
    let context = a.context.now in
    let list = bits context.octets.now in
    let s = a.state.now in
    let d = c.decode_element in
    let f = element_found context a.member.now.node (types context a.depth a.member.now.node) s d.new.state a.parts.now d.new.parts d.result
    c.if-not-decode_element.false d.ensures.did in
    let front = front_is (elements context a.depth a.member.now.node).encoding.encodes list s d.new.state f.parts d.ensures.moved f.are in
    default_fault context a.depth a.node a.member.now.node c.in-Default.value (rest list s) f.parts (rest list d.new.state) f.are a.member.now.presence
    (fault_of c.fail.new.state) c.in-Default.is (c.is_default.ensures.0 c.if-is_default.true ∙ ap (λ (l : List Bool). Some l) (sym front))
    (fault_here list s c.fail.new.state a.node DefaultValue c.requires.within.inside c.fail.ensures.at
    (c.fail.ensures.end ∙ d.ensures.moved.same_end) c.fail.ensures.node c.fail.ensures.kind)

pub decode_value-returns-else-is_default-clause-did : goal.sequence::decode_value-returns-else-is_default-clause-did
decode_value-returns-else-is_default-clause-did t c =
    let a = c.args in
    let context = a.context.now in
    let list = bits context.octets.now in
    let s = a.state.now in
    let d = c.decode_element in
    let f = element_found context a.member.now.node (types context a.depth a.member.now.node) s d.new.state a.parts.now d.new.parts d.result
    c.if-not-decode_element.false d.ensures.did in
    let front = front_is (elements context a.depth a.member.now.node).encoding.encodes list s d.new.state f.parts d.ensures.moved f.are in
    record {
      parts = f.parts;
      are = other_value context a.depth a.node a.member.now.node c.in-Default.value (rest list s) f.parts (rest list d.new.state) f.are
          a.member.now.presence c.in-Default.is
          (λ e. let k : true ≡ false = sym (c.is_default.ensures.1 (e ∙ ap (λ (l : List Bool). Some l) front)) ∙ c.if-is_default.false in cc);
      grown = f.grown;
    }

pub decode_sequence-returns-then-not-decode_members-clause-did : goal.sequence::decode_sequence-returns-then-not-decode_members-clause-did
decode_sequence-returns-then-not-decode_members-clause-did t c =
    let a = c.args in
    let context = a.context.now in
    let list = bits context.octets.now in
    let ranges = context.tables.ranges.now in
    let s = a.state.now in
    let mid : State = record { at = s.at; end = s.end; count = c.push_part-state.result; node = s.node; kind = s.kind } in
    let d = c.decode_members in
    root_fault context a.depth a.node a.root a.known a.is_extensible (rest list s) (fault_of d.new.state)
    (by_false context (AreSteps (IsComponent context a.depth a.node) a.root.count a.root.from)
    (StepsFault (IsComponent context a.depth a.node) (ComponentFault context a.depth a.node) a.root.count a.root.from) mid
    d.new.state c.push_part-state.new.parts d.new.parts d.result c.if-not-decode_members.true d.ensures.did)

pub decode_sequence-returns-then-state-clause-did : goal.sequence::decode_sequence-returns-then-state-clause-did
decode_sequence-returns-then-state-clause-did t c =
    let a = c.args in
    let context = a.context.now in
    let list = bits context.octets.now in
    let ranges = context.tables.ranges.now in
    let s = a.state.now in
    let mid : State = record { at = s.at; end = s.end; count = c.push_part-state.result; node = s.node; kind = s.kind } in
    let d = c.decode_members in
    let f = by_true context (AreSteps (IsComponent context a.depth a.node) a.root.count a.root.from)
    (StepsFault (IsComponent context a.depth a.node) (ComponentFault context a.depth a.node) a.root.count a.root.from) mid
    d.new.state c.push_part-state.new.parts d.new.parts d.result c.if-not-decode_members.false d.ensures.did in
    let none = c.if-state.true in
    let size = rest_length list d.new.state d.ensures.moved.inside in
    record {
      parts = Sequence a.root.count false ∷ f.parts;
      are = root_done context a.depth a.node a.root a.known a.is_extensible (rest list s) f.parts (rest list d.new.state) f.are
          (omega (arith, size, none));
      grown = grown_over ranges list a.parts.now c.push_part-state.new.parts d.new.parts s.count mid.count d.new.state.count
          (Sequence a.root.count false ∷ []) f.parts (c.push_part-state.ensures.grown ranges list) f.grown;
    }

pub decode_sequence-returns-then-not-is_extensible-clause-did : goal.sequence::decode_sequence-returns-then-not-is_extensible-clause-did
decode_sequence-returns-then-not-is_extensible-clause-did t c =
    let a = c.args in
    let context = a.context.now in
    let list = bits context.octets.now in
    let ranges = context.tables.ranges.now in
    let s = a.state.now in
    let mid : State = record { at = s.at; end = s.end; count = c.push_part-state.result; node = s.node; kind = s.kind } in
    let d = c.decode_members in
    let f = by_true context (AreSteps (IsComponent context a.depth a.node) a.root.count a.root.from)
    (StepsFault (IsComponent context a.depth a.node) (ComponentFault context a.depth a.node) a.root.count a.root.from) mid
    d.new.state c.push_part-state.new.parts d.new.parts d.result c.if-not-decode_members.false d.ensures.did in
    let ends = d.ensures.moved.ends in
    let not = c.if-state.false in
    let size = rest_length list d.new.state d.ensures.moved.inside in
    subst (λ (b : Bool). (Whole context a.depth a.node a.root a.known b).contents.fault (rest list s) (fault_of c.fail.new.state))
    (sym c.if-not-is_extensible.true)
    (extra_fault context a.depth a.node a.root a.known (rest list s) f.parts (rest list d.new.state) (fault_of c.fail.new.state) f.are
    (omega (arith, size, ends, not))
    (fault_here list d.new.state c.fail.new.state a.node Extra d.ensures.moved.inside c.fail.ensures.at c.fail.ensures.end
    c.fail.ensures.node c.fail.ensures.kind))

pub decode_sequence-returns-clause-did : goal.sequence::decode_sequence-returns-clause-did
decode_sequence-returns-clause-did t c =
    let a = c.args in
    let context = a.context.now in
    let list = bits context.octets.now in
    let ranges = context.tables.ranges.now in
    let s = a.state.now in
    let mid : State = record { at = s.at; end = s.end; count = c.push_part-state.result; node = s.node; kind = s.kind } in
    let d = c.decode_members in
    let f = by_true context (AreSteps (IsComponent context a.depth a.node) a.root.count a.root.from)
    (StepsFault (IsComponent context a.depth a.node) (ComponentFault context a.depth a.node) a.root.count a.root.from) mid
    d.new.state c.push_part-state.new.parts d.new.parts d.result c.if-not-decode_members.false d.ensures.did in
    let x = c.decode_additions in
    let ends = d.ensures.moved.ends in
    let not = c.if-state.false in
    let size = rest_length list d.new.state d.ensures.moved.inside in
    subst (λ (b : Bool). ContentsOutcome context (Whole context a.depth a.node a.root a.known b).contents s x.new.state a.parts.now x.new.parts
    x.result) (sym c.if-not-is_extensible.false)
    (extended_outcome context a.depth a.node a.root a.known s d.new.state x.new.state a.parts.now c.replace_part.new.parts x.new.parts f.parts
    f.are (omega (arith, size, ends, not))
    (c.replace_part.ensures ranges list a.parts.now d.new.state.count (Sequence a.root.count false) f.parts
    (grown_over ranges list a.parts.now c.push_part-state.new.parts d.new.parts s.count mid.count d.new.state.count
    (Sequence a.root.count false ∷ []) f.parts (c.push_part-state.ensures.grown ranges list) f.grown)) x.result x.ensures.did)

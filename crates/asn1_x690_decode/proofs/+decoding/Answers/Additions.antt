-- Answers for the decoders of src/additions.rt.
use Rattle.std.proofs.Common.{◌+◌, [], ◌∷◌, ◌++◌, refl, sym, arith}
use Rattle.asn1_bits.specs.Bits.{bits}
use Rattle.asn1_bits.specs.Laws.DigitLaws.{length-bits}
use Rattle.asn1_schema.specs.Pieces.{Absent, Additions}
use Rattle.asn1_x690_fields.specs.declared.state.State.{State}
use Rattle.asn1_x690_fields.specs.Outcomes.{rest, fault_of}
use Rattle.asn1_x690_decode.specs.Members.{AreSteps, StepsFault, IsAddition, AdditionFault}
use Rattle.asn1_x690_decode.proofs.StateSteps.{grown_over, by_true, by_false}
use Rattle.asn1_x690_decode.proofs.SequenceSteps.{known_fault, unknown_fault, added_done}
use Rattle.asn1_x690_decode.proofs.ValueSteps.{absent_addition, grouped_outcome}
use Rattle.asn1_x690_decode.proofs.+decoding.Goals as goal

pub decode_additions-overflow_add-known : goal.additions::decode_additions-overflow_add-known
decode_additions-overflow_add-known t c =
    let few = c.in-Some.ensures.few in
    let most = c.requires.size in
    let same = c.decode_members.ensures.moved.same_end in
    let inside = c.requires.within.inside in
    record { fits = omega (arith, few, most, same, inside, length-bits c.args.context.now.octets.now) }

pub decode_additions-returns-then-not-decode_members-clause-did : goal.additions::decode_additions-returns-then-not-decode_members-clause-did
decode_additions-returns-then-not-decode_members-clause-did t c =
    let a = c.args in
    let context = a.context.now in
    let list = bits context.octets.now in
    let ranges = context.tables.ranges.now in
    let s = a.state.now in
    let mid : State = record { at = s.at; end = s.end; count = c.push_part-state.result; node = s.node; kind = s.kind } in
    let d = c.decode_members in
    known_fault context a.depth a.node a.known a.known (rest list s) (fault_of d.new.state)
    (by_false context (AreSteps (IsAddition context a.depth a.node) a.known.count a.known.from)
    (StepsFault (IsAddition context a.depth a.node) (AdditionFault context a.depth a.node) a.known.count a.known.from) mid
    d.new.state c.push_part-state.new.parts d.new.parts d.result c.if-not-decode_members.true d.ensures.did)

pub decode_additions-returns-in-None-clause-did : goal.additions::decode_additions-returns-in-None-clause-did
decode_additions-returns-in-None-clause-did t c =
    let a = c.args in
    let context = a.context.now in
    let list = bits context.octets.now in
    let ranges = context.tables.ranges.now in
    let s = a.state.now in
    let mid : State = record { at = s.at; end = s.end; count = c.push_part-state.result; node = s.node; kind = s.kind } in
    let d = c.decode_members in
    let f = by_true context (AreSteps (IsAddition context a.depth a.node) a.known.count a.known.from)
    (StepsFault (IsAddition context a.depth a.node) (AdditionFault context a.depth a.node) a.known.count a.known.from) mid
    d.new.state c.push_part-state.new.parts d.new.parts d.result c.if-not-decode_members.false d.ensures.did in
    unknown_fault context a.depth a.node a.known a.known (rest list s) f.parts (rest list d.new.state) (fault_of c.keep_elements.new.state) f.are
    c.in-None.ensures.did

pub decode_additions-returns-in-Some-clause-did : goal.additions::decode_additions-returns-in-Some-clause-did
decode_additions-returns-in-Some-clause-did t c =
    let a = c.args in
    let context = a.context.now in
    let list = bits context.octets.now in
    let ranges = context.tables.ranges.now in
    let s = a.state.now in
    let mid : State = record { at = s.at; end = s.end; count = c.push_part-state.result; node = s.node; kind = s.kind } in
    let d = c.decode_members in
    let f = by_true context (AreSteps (IsAddition context a.depth a.node) a.known.count a.known.from)
    (StepsFault (IsAddition context a.depth a.node) (AdditionFault context a.depth a.node) a.known.count a.known.from) mid
    d.new.state c.push_part-state.new.parts d.new.parts d.result c.if-not-decode_members.false d.ensures.did in
    let k = c.in-Some.ensures.did in
    record {
      parts = Additions (a.known.count + c.in-Some.count) ∷ f.parts ++ k.parts;
      are = added_done context a.depth a.node a.known a.known (rest list s) f.parts (rest list d.new.state) c.in-Some.count k.parts f.are k.are;
      grown = c.replace_part.ensures ranges list a.parts.now c.keep_elements.new.state.count (Additions 18446744073709551615) (f.parts ++ k.parts)
          (grown_over ranges list a.parts.now c.push_part-state.new.parts c.keep_elements.new.parts s.count mid.count
          c.keep_elements.new.state.count (Additions 18446744073709551615 ∷ []) (f.parts ++ k.parts) (c.push_part-state.ensures.grown ranges list)
          (grown_over ranges list c.push_part-state.new.parts d.new.parts c.keep_elements.new.parts mid.count d.new.state.count
          c.keep_elements.new.state.count f.parts k.parts f.grown k.grown));
    }

-- ---- an addition

pub decode_addition-returns-then-not-begins_with-clause-did : goal.additions::decode_addition-returns-then-not-begins_with-clause-did
decode_addition-returns-then-not-begins_with-clause-did t c =
    let a = c.args in
    let context = a.context.now in
    let list = bits context.octets.now in
    record {
      parts = Absent ∷ [];
      are = absent_addition context a.depth a.node c.in-Some.member.now c.in-Some-first_at.first.now (a.from + a.index) (sym c.in-Some.ensures)
          (sym c.in-Some-first_at.ensures) (rest list a.state.now) (c.begins_with.ensures.no c.if-not-begins_with.true);
      grown = c.push_part-state.ensures.grown context.tables.ranges.now list;
    }

pub decode_group-returns-clause-did : goal.additions::decode_group-returns-clause-did
decode_group-returns-clause-did t c =
    let a = c.args in
    let context = a.context.now in
    let s = a.state.now in
    let mid : State = record { at = s.at; end = s.end; count = c.push_part-state.result; node = s.node; kind = s.kind } in
    let d = c.decode_members in
    grouped_outcome context a.depth a.node a.rows s mid d.new.state a.parts.now c.push_part-state.new.parts d.new.parts d.result refl
    (c.push_part-state.ensures.grown context.tables.ranges.now (bits context.octets.now)) d.ensures.did

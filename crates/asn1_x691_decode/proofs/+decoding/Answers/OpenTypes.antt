-- Answers for the decoders of src/open_type.rt.
use Rattle.std.proofs.Common.{◌≡◌, ℕ, ◌+◌, Bool, true, false, List, arith, refl, sym, ◌∙◌, subst, Some, inl}
use Rattle.asn1_bits.specs.Bits.{bits}
use Rattle.asn1_x691_decode.specs.Decoding.{Outcome, value_in}
use Rattle.asn1_x691_decode.proofs.Steps.{by_true, by_false}
use Rattle.asn1_x691.specs.OpenTypes.{complete}
use Rattle.asn1_x691_fields.specs.declared.state.State.{State}
use Rattle.asn1_schema.specs.Room.{IsGrown}
use Rattle.asn1_x691_decode.proofs.OpenSteps.{complete_outcome, complete_fails, enclosed_starts, enclosed_fault, contents_true, contents_false}
use Rattle.asn1_schema.specs.declared.tables.Presence.{Presence}
use Rattle.asn1_schema.specs.declared.misfit.MisfitKind.TheVariants as misfit
use Rattle.asn1_bits.specs.Laws.DigitLaws.{length-bits}
use Rattle.asn1_x691.specs.declared.fault.FaultKind.TheVariants.{DefaultValue}
use Rattle.asn1_x691.specs.Fields.{phase}
use Rattle.asn1_x691_fields.specs.Outcomes.{position}
use Rattle.asn1_x691_fields.specs.Steps.{fault_at}
use Rattle.asn1_x691_decode.specs.Decoding.{types, defaults_in}
use Rattle.asn1_x691_decode.proofs.ExceptSteps.{front_bits, other_decoded, other_fault}
use Rattle.asn1_x691_decode.proofs.+decoding.Goals as goal

pub decode_complete-returns-clause-did : goal.open_type::decode_complete-returns-clause-did
decode_complete-returns-clause-did t c =
    let cx = c.args.context.now in
    let V = value_in cx c.args.depth c.args.node c.args.member.presence c.args.member.node in
    complete_outcome cx V c.args.node c.args.state.now c.decode_value.new.state c.at_end.new.state c.args.parts.now c.decode_value.new.parts
    c.at_end.result c.requires.within c.decode_value.ensures.moved c.requires.begins
    (by_true cx (λ at. (V at).encoding) c.args.state.now c.decode_value.new.state c.args.parts.now c.decode_value.new.parts
    c.decode_value.result c.if-not-decode_value.false c.decode_value.ensures.did)
    c.at_end.ensures.onward.same_count c.at_end.ensures.ends

pub decode_complete-returns-then-not-decode_value-clause-did : goal.open_type::decode_complete-returns-then-not-decode_value-clause-did
decode_complete-returns-then-not-decode_value-clause-did t c =
    let cx = c.args.context.now in
    let V = value_in cx c.args.depth c.args.node c.args.member.presence c.args.member.node in
    complete_fails cx V c.args.node c.args.state.now c.decode_value.new.state c.requires.begins
    (by_false cx (λ at. (V at).encoding) c.args.state.now c.decode_value.new.state c.args.parts.now c.decode_value.new.parts
    c.decode_value.result c.if-not-decode_value.true c.decode_value.ensures.did)

pub decode_enclosed-returns-then-not-is_complete-clause-did : goal.open_type::decode_enclosed-returns-then-not-is_complete-clause-did
decode_enclosed-returns-then-not-is_complete-clause-did t c =
    let cx = c.args.context.now in
    let V = value_in cx c.args.depth c.args.node c.args.member.presence c.args.member.node in
    let after = c.next_octets.new.state in
    let span = c.in-Some.span in
    let inside : State =
    record { at = span.at; first = span.at; end = span.at + span.count; count = after.count; node = after.node; kind = after.kind } in
    let out = c.decode_complete-is_complete.new.state in
    let new : State =
    record { at = out.at; first = after.first; end = after.end; count = out.count; node = out.node; kind = out.kind } in
    enclosed_fault cx V c.args.node c.args.state.now after inside out span c.requires.within c.next_octets.ensures.onward
    c.in-Some.ensures.read c.in-Some.ensures.index refl refl new refl refl refl refl
    c.decode_complete-is_complete.ensures.moved.ends c.decode_complete-is_complete.ensures.moved.same_end (contents_false cx (complete c.args.node V) inside out c.args.parts.now c.decode_complete-is_complete.new.parts
    c.decode_complete-is_complete.result c.if-not-is_complete.true c.decode_complete-is_complete.ensures.did)

pub decode_enclosed-returns-clause-did : goal.open_type::decode_enclosed-returns-clause-did
decode_enclosed-returns-clause-did t c =
    let cx = c.args.context.now in
    let V = value_in cx c.args.depth c.args.node c.args.member.presence c.args.member.node in
    let after = c.next_octets.new.state in
    let span = c.in-Some.span in
    let inside : State =
    record { at = span.at; first = span.at; end = span.at + span.count; count = after.count; node = after.node; kind = after.kind } in
    let out = c.decode_complete-is_complete.new.state in
    let f = contents_true cx (complete c.args.node V) inside out c.args.parts.now c.decode_complete-is_complete.new.parts
    c.decode_complete-is_complete.result c.if-not-is_complete.false c.decode_complete-is_complete.ensures.did in
    record {
      parts = f.parts;
      starts = enclosed_starts cx V c.args.node c.args.state.now after inside out span c.requires.within c.next_octets.ensures.onward
          c.in-Some.ensures.read c.in-Some.ensures.index refl refl f.parts f.fills;
      grown = subst (λ (n : ℕ). IsGrown cx.tables.ranges.now (bits cx.octets.now) c.args.parts.now n c.decode_complete-is_complete.new.parts out.count f.parts)
          c.next_octets.ensures.onward.same_count f.grown;
    }

pub decode_value-returns-in-Default-clause-did : goal.open_type::decode_value-returns-in-Default-clause-did
decode_value-returns-in-Default-clause-did t c =
    let cx = c.args.context.now in
    let m = c.args.member in
    let o = c.decode_other_than in
    subst (λ (p : Presence). Outcome cx (λ at. (value_in cx c.args.depth c.args.node p m.node at).encoding) c.args.state.now o.new.state
    c.args.parts.now o.new.parts o.result) (sym c.in-Default.is) o.ensures.did

pub decode_other_than-is_default-requires-clause-inside : goal.open_type::decode_other_than-is_default-requires-clause-inside
decode_other_than-is_default-requires-clause-inside t c =
    omega (arith, length-bits c.args.context.now.octets.now, c.decode_node.ensures.moved.ends, c.decode_node.ensures.moved.inside)

pub decode_other_than-returns-then-not-decode_node-clause-did : goal.open_type::decode_other_than-returns-then-not-decode_node-clause-did
decode_other_than-returns-then-not-decode_node-clause-did t c =
    let cx = c.args.context.now in
    let a = c.args in
    let one = c.decode_node in
    inl (by_false cx (λ at. (types cx a.depth a.inner at).encoding) a.state.now one.new.state a.parts.now one.new.parts one.result
    c.if-not-decode_node.true one.ensures.did)

pub decode_other_than-returns-then-is_default-clause-did : goal.open_type::decode_other_than-returns-then-is_default-clause-did
decode_other_than-returns-then-is_default-clause-did t c =
    let cx = c.args.context.now in
    let a = c.args in
    let one = c.decode_node in
    let list = bits cx.octets.now in
    let d = by_true cx (λ at. (types cx a.depth a.inner at).encoding) a.state.now one.new.state a.parts.now one.new.parts one.result
    c.if-not-decode_node.false one.ensures.did in
    let C : List Bool → Type 0 = λ l. defaults_in cx a.value (phase cx.is_aligned (position a.state.now)) ≡ Some l in
    (other_fault cx C DefaultValue misfit.DefaultValue a.node (types cx a.depth a.inner (position a.state.now)) a.state.now one.new.state
    c.fail.new.state a.parts.now one.new.parts d
    (subst C
    (sym (front_bits list a.state.now one.new.state c.requires.within one.ensures.moved
    (types cx a.depth a.inner (position a.state.now)).encoding.encodes d.parts d.starts))
    (c.is_default.ensures.0 c.if-is_default.true))
    (fault_at list a.state.now c.fail.new.state a.node DefaultValue c.requires.within.inside
    c.fail.ensures.at (c.fail.ensures.end ∙ one.ensures.moved.same_end) c.fail.ensures.node c.fail.ensures.kind))

pub decode_other_than-returns-clause-did : goal.open_type::decode_other_than-returns-clause-did
decode_other_than-returns-clause-did t c =
    let cx = c.args.context.now in
    let a = c.args in
    let one = c.decode_node in
    let list = bits cx.octets.now in
    let d = by_true cx (λ at. (types cx a.depth a.inner at).encoding) a.state.now one.new.state a.parts.now one.new.parts one.result
    c.if-not-decode_node.false one.ensures.did in
    let C : List Bool → Type 0 = λ l. defaults_in cx a.value (phase cx.is_aligned (position a.state.now)) ≡ Some l in
    other_decoded cx C DefaultValue misfit.DefaultValue a.node (types cx a.depth a.inner (position a.state.now)) a.state.now one.new.state
    a.parts.now one.new.parts d
    (λ h. not_both c.is_default.result c.if-is_default.false
    (c.is_default.ensures.1
    (subst C
    (front_bits list a.state.now one.new.state c.requires.within one.ensures.moved
    (types cx a.depth a.inner (position a.state.now)).encoding.encodes d.parts d.starts) h)))
  where
    not_both : (b : Bool) → b ≡ false → b ≡ true → ⊥
    not_both b e f = absurd cc

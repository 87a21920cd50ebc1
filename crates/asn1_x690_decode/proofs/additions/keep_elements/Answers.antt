use Rattle.std.proofs.Common.{◌≡◌, ℕ, ◌+◌, ◌-◌, ◌<◌, ◌≤◌, List, [], ◌∷◌, Bool, length, drop, refl, sym, ap, subst, arith, inl}
use Rattle.std.proofs.lemmas.List.{length-take}
use Rattle.asn1_bits.specs.Bits.{bits}
use Rattle.asn1_schema.specs.Pieces.{Unknown}
use Rattle.asn1_schema.specs.PiecesOfParts.{bits_at}
use Rattle.asn1_schema.specs.Room.{IsGrown}
use Rattle.asn1_schema.specs.TypeEncodings.{TypeEncoding}
use Rattle.asn1_x690.specs.declared.fault.FaultKind.{FaultKind}
use Rattle.asn1_x690.specs.declared.fault.FaultKind.TheVariants.{Extra}
use Rattle.asn1_x690.specs.Der.{element, any_value}
use Rattle.asn1_x690.specs.Elements.{any_element}
use Rattle.asn1_x690.specs.Laws.ElementLaws.{element_some}
use Rattle.asn1_x690_fields.specs.Outcomes.{rest, fault_of}
use Rattle.asn1_x690_decode.proofs.StateSteps.{none_moved, moved_over, moved_within, onward_moved, front_is}
use Rattle.asn1_x690_decode.proofs.ItemSteps.{begins, ends, fails, goes_on}
use Rattle.asn1_x690_decode.proofs.ElementSteps.{kept_starts}
use Rattle.asn1_x690_decode.proofs.additions.keep_elements.Goals as goal

abbrev kept : ℕ → List Bool → TypeEncoding FaultKind
kept node before = element node (any_value Unknown node)

pub loop-state-init : goal.loop-state-init
loop-state-init c =
    let s = c.args.state.now in
    record {
      moved = none_moved (bits c.args.context.now.octets.now) s s c.requires.within refl refl;
      few = omega arith;
      underway = (
        [],
        begins Extra c.args.node (kept c.args.node) c.args.context.now.tables.ranges.now (bits c.args.context.now.octets.now) s
            c.args.parts.now [] refl,
      );
    }

pub returns-in-None-clause-did : goal.returns-in-None-clause-did
returns-in-None-clause-did c =
    let list = bits c.args.context.now.octets.now in
    let l = c.loop-state in
    let u = l.invariant.underway in
    fails Extra c.args.node (kept c.args.node) c.args.context.now.tables.ranges.now list c.args.state.now l.state c.args.parts.now l.parts
    u.0 l.count u.1 (moved_within list c.args.state.now l.state l.invariant.moved) c.loop-state-test.true (fault_of c.next_header.new.state)
    (inl c.in-None.ensures.read)

pub loop-state-preserved : goal.loop-state-preserved
loop-state-preserved c =
    let list = bits c.args.context.now.octets.now in
    let l = c.loop-state in
    let u = l.invariant.underway in
    let mid = c.next_header.new.state in
    let g = c.in-Some.ensures.onward in
    let r = c.in-Some.ensures.read in
    let v = r.0 in
    let s = r.2 in
    let same = front_is (any_element c.args.node).encodes list l.state mid v (onward_moved list l.state mid g) s in
    let eight = element_some c.args.node v s.front s.encoded in
    let some : 0 < length s.front = omega (arith, eight) in
    let moved = moved_over list c.args.state.now l.state mid l.invariant.moved (onward_moved list l.state mid g) in
    let grown = subst (λ (b : List Bool). IsGrown c.args.context.now.tables.ranges.now list l.parts mid.count c.push_part-state.new.parts
    c.push_part-state.result (Unknown b ∷ [])) (sym same) (c.push_part-state.ensures.grown c.args.context.now.tables.ranges.now list) in
    let size : length s.front ≤ mid.at - l.state.at = (let e : length s.front ≡ length (bits_at list l.state.at (mid.at - l.state.at)) = ap length same in
    omega (arith, e, length-take (mid.at - l.state.at) (drop l.state.at list))) in
    record {
      moved = record { same_end = moved.same_end; on = moved.on; ends = moved.ends; inside = moved.inside };
      few = (let f = l.invariant.few in omega (arith, f, eight, size));
      underway = (
        s.front,
        goes_on Extra c.args.node (kept c.args.node) c.args.context.now.tables.ranges.now list c.args.state.now l.state c.args.parts.now
            l.parts u.0 l.count u.1
            (record { at = mid.at; end = mid.end; count = c.push_part-state.result; node = mid.node; kind = mid.kind })
            c.push_part-state.new.parts (Unknown s.front ∷ [])
            (kept_starts Unknown c.args.node (rest list l.state) (rest list mid) v s) some s.front refl (l.count + 1) refl
            (subst (λ (n : ℕ). IsGrown c.args.context.now.tables.ranges.now list l.parts n c.push_part-state.new.parts c.push_part-state.result
            (Unknown s.front ∷ [])) g.same_count grown),
      );
    }

pub returns-clause-did : goal.returns-clause-did
returns-clause-did c =
    let list = bits c.args.context.now.octets.now in
    let l = c.loop-state in
    let u = l.invariant.underway in
    let not = c.loop-state-test.false in
    ends Extra c.args.node (kept c.args.node) c.args.context.now.tables.ranges.now list c.args.state.now l.state c.args.parts.now l.parts
    u.0 l.count u.1 (moved_within list c.args.state.now l.state l.invariant.moved) (λ lt. omega (arith, lt, not))

use Rattle.std.proofs.Common.{◌≡◌, ℕ, suc, ◌-◌, true, false, refl, sym, ◌∙◌, subst, arith}
use Rattle.asn1_bits.specs.Bits.{bits}
use Rattle.asn1_x690_fields.specs.declared.state.State.{State}
use Rattle.asn1_x690_elements.specs.Elements.{levels}
use Rattle.asn1_x690_elements.specs.Walks.{Outcome}
use Rattle.asn1_x690_elements.proofs.WalkSteps.{begins, ends, header_fails, inner_fails, goes_on, constructed_outcome, moved_over, by_inner, is_true}
use Rattle.asn1_x690_elements.proofs.elements.+decoding.Goals as goal

pub decode_inside-returns-then-is_valid-clause-did : goal.decode_inside-returns-then-is_valid-clause-did
decode_inside-returns-then-is_valid-clause-did t c =
    let s = c.args.state.now in
    let h = c.args.header in
    let last = c.decode_level-is_valid.new.state in
    let first : State = record { at = h.from; end = h.to; count = s.count; node = s.node; kind = s.kind } in
    let new : State = record { at = h.to; end = s.end; count = last.count; node = last.node; kind = last.kind } in
    constructed_outcome (bits c.args.octets.now) (levels c.args.depth) h s new c.args.room.now c.decode_level-is_valid.new.room
    first last c.decode_level-is_valid.result (is_true h.identifier.is_constructed c.if-not-header.false) c.requires.ordered refl refl refl
    c.decode_level-is_valid.ensures.moved (omega (arith, c.requires.ends, c.requires.within.ends)) refl refl refl refl
    (λ e. absurd (let t : c.decode_level-is_valid.result ≡ true = c.if-is_valid.true in let f : true ≡ false = sym t ∙ e in cc))
    c.decode_level-is_valid.ensures.did

pub decode_inside-returns-else-is_valid-clause-did : goal.decode_inside-returns-else-is_valid-clause-did
decode_inside-returns-else-is_valid-clause-did t c =
    let s = c.args.state.now in
    let h = c.args.header in
    let last = c.decode_level-is_valid.new.state in
    let first : State = record { at = h.from; end = h.to; count = s.count; node = s.node; kind = s.kind } in
    let new : State = record { at = last.at; end = s.end; count = last.count; node = last.node; kind = last.kind } in
    constructed_outcome (bits c.args.octets.now) (levels c.args.depth) h s new c.args.room.now c.decode_level-is_valid.new.room
    first last c.decode_level-is_valid.result (is_true h.identifier.is_constructed c.if-not-header.false) c.requires.ordered refl refl refl
    c.decode_level-is_valid.ensures.moved (omega (arith, c.requires.ends, c.requires.within.ends)) refl refl refl refl
    (λ e. refl) c.decode_level-is_valid.ensures.did

pub decode_items-loop-state-init : goal.decode_items-loop-state-init
decode_items-loop-state-init t c =
    let s = c.args.state.now in (
      record { same_end = refl; on = omega arith; ends = c.requires.within.ends; inside = c.requires.within.inside },
      begins (bits c.args.octets.now) c.args.depth s c.args.room.now,
    )

pub decode_items-returns-in-None-clause-did : goal.decode_items-returns-in-None-clause-did
decode_items-returns-in-None-clause-did t c =
    let list = bits c.args.octets.now in
    let now = c.loop-state.state in
    let g = c.loop-state.invariant.0 in
    header_fails list c.args.depth c.args.state.now now c.args.room.now c.loop-state.room c.loop-state.invariant.1
    c.next_header.new.state (record { ends = g.ends; inside = g.inside }) c.loop-state-test.true c.in-None.ensures.read

pub decode_items-returns-then-not-decode_inside-clause-did : goal.decode_items-returns-then-not-decode_inside-clause-did
decode_items-returns-then-not-decode_inside-clause-did t c =
    let list = bits c.args.octets.now in
    let now = c.loop-state.state in
    let mid = c.next_header.new.state in
    let pushed = c.push.new.state in
    let new = c.decode_inside.new.state in
    let h = c.in-Some.header in
    let r = c.in-Some.ensures.read in
    let o = by_inner list (levels c.args.depth) h pushed new c.push.new.room c.decode_inside.new.room c.decode_inside.result false
    c.if-not-decode_inside.true c.decode_inside.ensures.did in
    inner_fails list c.args.depth c.args.state.now now c.args.room.now c.loop-state.room c.loop-state.invariant.1 mid pushed new
    c.push.new.room c.decode_inside.new.room h r.0 r.1 r.2 c.in-Some.ensures.ends c.in-Some.ensures.onward c.push.ensures.at
    c.push.ensures.end (c.push.ensures.grown list) o.0 o.1 o.2

pub decode_items-loop-state-preserved : goal.decode_items-loop-state-preserved
decode_items-loop-state-preserved t c =
    let list = bits c.args.octets.now in
    let now = c.loop-state.state in
    let mid = c.next_header.new.state in
    let pushed = c.push.new.state in
    let new = c.decode_inside.new.state in
    let h = c.in-Some.header in
    let r = c.in-Some.ensures.read in
    let stays = c.decode_inside.ensures.moved c.if-not-decode_inside.false in
    let o = by_inner list (levels c.args.depth) h pushed new c.push.new.room c.decode_inside.new.room c.decode_inside.result true
    c.if-not-decode_inside.false c.decode_inside.ensures.did in (
      moved_over list c.args.state.now now mid new c.loop-state.invariant.0 c.in-Some.ensures.onward (stays ∙ c.push.ensures.at)
          (c.decode_inside.ensures.end ∙ c.push.ensures.end),
      goes_on list c.args.depth c.args.state.now now c.args.room.now c.loop-state.room c.loop-state.invariant.1 mid pushed new
          c.push.new.room c.decode_inside.new.room h r.0 r.1 r.2 c.in-Some.ensures.ends c.in-Some.ensures.onward c.push.ensures.at
          c.push.ensures.end (c.push.ensures.grown list) o stays c.decode_inside.ensures.end,
    )

pub decode_items-returns-clause-did : goal.decode_items-returns-clause-did
decode_items-returns-clause-did t c =
    let list = bits c.args.octets.now in
    let now = c.loop-state.state in
    let g = c.loop-state.invariant.0 in
    ends list c.args.depth c.args.state.now now c.args.room.now c.loop-state.room c.loop-state.invariant.1
    (record { ends = g.ends; inside = g.inside }) (λ lt. let not = c.loop-state-test.false in omega (arith, lt, not))

pub decode_level-returns-clause-did : goal.decode_level-returns-clause-did
decode_level-returns-clause-did t c =
    let e : suc (c.args.depth - 1) ≡ c.args.depth = (let some = c.if-depth-eq0.false in omega (arith, some)) in
    subst (λ (n : ℕ). Outcome (bits c.args.octets.now) (levels n) c.args.state.now c.decode_items.new.state c.args.room.now
    c.decode_items.new.room c.decode_items.result) e c.decode_items.ensures.did

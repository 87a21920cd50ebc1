-- Answers for the encoders of src/set.rt.
use Rattle.std.proofs.Common.{rules, ◌≡◌, ℕ, ◌+◌, ◌-◌, ◌<◌, ◌++◌, Bool, true, false, List, [], length, refl, sym, ◌∙◌, ap, subst, inl, inr, Option, arith}
use Rattle.std.specs.Prelude.{not}
use Rattle.asn1_bits.specs.Bits.{bits}
use Rattle.asn1_schema.specs.Pieces.{Parts}
use Rattle.asn1_schema.specs.PiecesOfParts.{bits_at}
use Rattle.asn1_x690_encode.specs.declared.set.ItemStart.{ItemStart}
use Rattle.asn1_x690_encode.specs.Encoding.{Outcome, AreWide, tape, types, element_in, in_order_in}
use Rattle.asn1_x690_encode.specs.ListSteps.{items_stopped, items_done, some_filled, none_stopped}
use Rattle.asn1_x690_encode.specs.OtherSteps.{left_same, again_left, again_same, again_rest}
use Rattle.asn1_x690_encode.specs.Sets.{IsPreviousIn, IsOrdered}
use Rattle.asn1_x690_encode.specs.SetSteps.{O, ordered_takes, first_on, next_fails, next_on, ordered_here, wide, set_begun, set_more}
use Rattle.asn1_x690_encode.specs.Steps.{as_contents, on_octet}
use Rattle.asn1_x690_encode.proofs.+encoding.Goals as goal

not_both : (b : Bool) → b ≡ false → b ≡ true → ⊥
not_both b e f = cc

pub encode_set_items-loop-left-init : goal.set::encode_set_items-loop-left-init
encode_set_items-loop-left-init t c =
    let a = c.args in
    set_begun a.context.now a.depth a.node a.item a.count a.octets.now a.state.now

pub encode_set_items-returns-then-not-encode_item : goal.set::encode_set_items-returns-then-not-encode_item
encode_set_items-returns-then-not-encode_item t c =
    let a = c.args in
    let cx = a.context.now in
    let l = c.loop-left in
    let k = c.encode_item in
    let g = l.invariant.items in
    items_stopped (O cx a.depth a.node a.item) cx a.count a.octets.now a.state.now l.left (l.left - 1) l.octets l.state g
    (omega (arith, c.loop-left-test.true)) k.new.state
    (subst
    (λ (b : Bool). Outcome cx (in_order_in cx a.depth a.node a.item g.before).encoding.encodes
    (in_order_in cx a.depth a.node a.item g.before).misfit l.octets l.state k.new.octets k.new.state b)
    c.if-not-encode_item.true (k.ensures g.before l.invariant.last))

pub encode_set_items-loop-left-preserved : goal.set::encode_set_items-loop-left-preserved
encode_set_items-loop-left-preserved t c =
    let a = c.args in
    let cx = a.context.now in
    let l = c.loop-left in
    let k = c.encode_item in
    let g = l.invariant.items in
    set_more cx a.depth a.node a.item a.count l.left (l.left - 1) _ l.previous a.octets.now l.octets k.new.octets a.state.now l.state k.new.state
    (omega (arith, c.loop-left-test.true)) l.invariant
    (subst
    (λ (b : Bool). Outcome cx (in_order_in cx a.depth a.node a.item g.before).encoding.encodes
    (in_order_in cx a.depth a.node a.item g.before).misfit l.octets l.state k.new.octets k.new.state b)
    c.if-not-encode_item.false (k.ensures g.before l.invariant.last)) k.auto.octets refl refl

pub encode_set_items-returns : goal.set::encode_set_items-returns
encode_set_items-returns t c =
    let a = c.args in
    let cx = a.context.now in
    let l = c.loop-left in
    items_done (O cx a.depth a.node a.item) cx a.count a.octets.now a.state.now a.node l.left (ordered_takes cx a.depth a.node a.item)
    l.octets l.state l.invariant.items (omega (arith, c.loop-left-test.false))

pub encode_item-returns-in-None : goal.set::encode_item-returns-in-None
encode_item-returns-in-None t c before g =
    let a = c.args in
    let cx = a.context.now in
    let k = c.encode_node in
    let O = in_order_in cx a.depth a.node a.item before in
    subst (λ (b : Bool). Outcome cx O.encoding.encodes O.misfit a.octets.now a.state.now k.new.octets k.new.state b) (sym c.is_some.ensures)
    (first_on cx a.depth a.node a.item before a.octets.now k.new.octets a.state.now k.new.state _
    (subst (λ (p : Option ItemStart). IsPreviousIn cx a.depth a.item p before a.octets.now a.state.now) c.in-None.is g)
    (as_contents cx a.item (types cx a.depth a.item) a.octets.now a.state.now k.new.octets k.new.state k.result k.ensures))

pub encode_next-returns-then-is_none : goal.set::encode_next-returns-then-is_none
encode_next-returns-then-is_none t c before g =
    let a = c.args in
    let cx = a.context.now in
    let k = c.encode_node in
    next_fails cx a.depth a.node a.item before a.state.now k.new.state
    (none_stopped cx a.item (types cx a.depth a.item) a.octets.now a.state.now k.new.octets k.new.state k.result
    (c.is_none.ensures ∙ ap not c.if-is_none.true) k.ensures)

pub encode_next-returns-then-are_in : goal.set::encode_next-returns-then-are_in
encode_next-returns-then-are_in t c before g =
    let a = c.args in
    let cx = a.context.now in
    let old = a.state.now in
    let k = c.encode_node in
    let m = c.is_ordered in
    let e = some_filled cx a.item (types cx a.depth a.item) a.octets.now old k.new.octets k.new.state k.result
    (c.is_none.ensures ∙ ap not c.if-is_none.false) k.ensures in
    let le = c.are_in.ensures.first c.if-are_in.true in
    let i = c.are_in.ensures.second c.if-are_in.true in
    let here = ordered_here cx a.depth a.node a.item g.was a.octets.now k.new.octets g.begun old k.new.state m.new.state g.encoded e
    (k.auto.octets ∙ g.size) before e.list m.result old.next g.bits refl (omega (arith, le, g.at)) i
    (subst
    (λ (n : ℕ). IsOrdered a.node old.next (bits_at (bits k.new.octets) n (old.at - n))
    (bits_at (bits k.new.octets) old.at (k.new.state.at - old.at)) m.new.state m.result) (sym g.at) m.ensures.ordered) in
    next_on cx a.depth a.node a.item before g.encoded.parts
    (subst (λ (l : List Bool). (element_in cx a.depth a.item).encoding.encodes g.encoded.parts l) g.bits g.encoded.fills) a.octets.now k.new.octets
    old k.new.state m.new.state e m.result m.ensures.kept (inl here)

pub encode_next-returns : goal.set::encode_next-returns
encode_next-returns t c before g =
    let a = c.args in
    let cx = a.context.now in
    let old = a.state.now in
    let k = c.encode_node in
    let m = c.are_ordered_alone in
    let e = some_filled cx a.item (types cx a.depth a.item) a.octets.now old k.new.octets k.new.state k.result
    (c.is_none.ensures ∙ ap not c.if-is_none.false) k.ensures in
    let p = subst (λ (l : List Bool). (element_in cx a.depth a.item).encoding.encodes g.encoded.parts l) g.bits g.encoded.fills in
    next_on cx a.depth a.node a.item before g.encoded.parts p a.octets.now k.new.octets old k.new.state m.new.state e m.result m.ensures.kept
    (m.ensures.ordered g.encoded.parts e.parts (tape cx k.new.state.next) before e.list p
    (subst (λ (n : ℕ). tape cx n ≡ g.encoded.parts ++ tape cx old.next) g.next g.encoded.taken) e.fills e.taken)

-- ---- in octets of their own

pub are_ordered_alone-encode_node-requires-2 : goal.set::are_ordered_alone-encode_node-requires-2
are_ordered_alone-encode_node-requires-2 t c =
    let a = c.args in
    let cx = a.context.now in
    let k = c.encode_node in
    let e = some_filled cx a.item (types cx a.depth a.item) _ _ k.new.octets k.new.state k.result
    (c.is_none.ensures ∙ ap not c.if-is_none.false) k.ensures in (
      search rules,
      (
        omega (arith, k.auto.octets),
        (c.requires.source, (c.requires.parts, on_octet _ k.new.octets 0 k.new.state.at e.list e.grown e.whole refl)),
      ),
    )

pub are_ordered_alone-returns-then-is_none-clause-ordered : goal.set::are_ordered_alone-returns-then-is_none-clause-ordered
are_ordered_alone-returns-then-is_none-clause-ordered t c xs ys rest before list p is q follows =
    let a = c.args in
    let cx = a.context.now in
    let k = c.encode_node in
    let s = c.stop in
    inr (
      s.ensures.result,
      left_same cx k.new.state s.new.state s.ensures.next s.ensures.node s.ensures.reason
          (again_left cx a.depth a.item a.next xs (tape cx a.first) before [] k.new.octets _ k.new.state refl p is
          (none_stopped cx a.item (types cx a.depth a.item) _ _ k.new.octets k.new.state k.result (c.is_none.ensures ∙ ap not c.if-is_none.true) k.ensures)),
    )

pub are_ordered_alone-returns-then-is_none-2-clause-ordered : goal.set::are_ordered_alone-returns-then-is_none-2-clause-ordered
are_ordered_alone-returns-then-is_none-2-clause-ordered t c xs ys rest before list p is q follows =
    let a = c.args in
    let cx = a.context.now in
    let k = c.encode_node in
    let m = c.encode_node-2 in
    let s = c.stop-then-is_none-2 in
    let e = some_filled cx a.item (types cx a.depth a.item) _ _ k.new.octets k.new.state k.result
    (c.is_none.ensures ∙ ap not c.if-is_none.false) k.ensures in
    let next = again_rest cx a.depth a.item a.next xs (tape cx a.first) before _ k.new.octets _ k.new.state refl p is e in
    inr (
      s.ensures.result,
      left_same cx m.new.state s.new.state s.ensures.next s.ensures.node s.ensures.reason
          (again_left cx a.depth a.item k.new.state.next ys rest list k.new.octets m.new.octets k.new.state m.new.state refl q (next ∙ follows)
          (none_stopped cx a.item (types cx a.depth a.item) k.new.octets k.new.state m.new.octets m.new.state m.result
          (c.is_none-2.ensures ∙ ap not c.if-is_none-2.true) m.ensures)),
    )

pub are_ordered_alone-returns-then-not-are_in-clause-ordered : goal.set::are_ordered_alone-returns-then-not-are_in-clause-ordered
are_ordered_alone-returns-then-not-are_in-clause-ordered t c xs ys rest before list p is q follows =
    let a = c.args in
    let cx = a.context.now in
    let k = c.encode_node in
    let m = c.encode_node-2 in
    let s = c.leave_unread in
    let e = some_filled cx a.item (types cx a.depth a.item) _ _ k.new.octets k.new.state k.result
    (c.is_none.ensures ∙ ap not c.if-is_none.false) k.ensures in
    let d = some_filled cx a.item (types cx a.depth a.item) k.new.octets k.new.state m.new.octets m.new.state m.result
    (c.is_none-2.ensures ∙ ap not c.if-is_none-2.false) m.ensures in
    let one = again_same cx a.depth a.item a.next xs (tape cx a.first) before _ k.new.octets _ k.new.state refl p is e in
    let next = again_rest cx a.depth a.item a.next xs (tape cx a.first) before _ k.new.octets _ k.new.state refl p is e in
    let two = again_same cx a.depth a.item k.new.state.next ys rest list k.new.octets m.new.octets k.new.state m.new.state refl q (next ∙ follows) d in
    inr (
      s.ensures.result,
      inr (
        s.ensures.reason,
        inr (subst (λ (n : ℕ). AreWide cx n s.new.state.next) (sym s.ensures.node) (record {
          depth = a.depth;
          xs = xs;
          ys = ys;
          before = before;
          list = list;
          rest = rest;
          first = p;
          second = q;
          are = ap (λ (n : ℕ). tape cx n) s.ensures.next ∙ is ∙ ap (λ (l : Parts). xs ++ l) follows;
          many = subst (λ (l : List Bool). 504 < length before + length l) two
              (subst (λ (l : List Bool). 504 < length l + length d.list) one
              (wide cx a.depth a.node a.item _ k.new.octets m.new.octets _ k.new.state m.new.state s.new.state e d
              (m.auto.octets ∙ k.auto.octets) refl (m.auto.octets ∙ k.auto.octets)
              (λ le i. not_both c.are_in.result c.if-not-are_in.true (c.are_in.ensures.both le i))));
        })),
      ),
    )

pub are_ordered_alone-returns-clause-ordered : goal.set::are_ordered_alone-returns-clause-ordered
are_ordered_alone-returns-clause-ordered t c xs ys rest before list p is q follows =
    let a = c.args in
    let cx = a.context.now in
    let k = c.encode_node in
    let m = c.encode_node-2 in
    let s = c.is_ordered in
    let e = some_filled cx a.item (types cx a.depth a.item) _ _ k.new.octets k.new.state k.result
    (c.is_none.ensures ∙ ap not c.if-is_none.false) k.ensures in
    let d = some_filled cx a.item (types cx a.depth a.item) k.new.octets k.new.state m.new.octets m.new.state m.result
    (c.is_none-2.ensures ∙ ap not c.if-is_none-2.false) m.ensures in
    let one = again_same cx a.depth a.item a.next xs (tape cx a.first) before _ k.new.octets _ k.new.state refl p is e in
    let next = again_rest cx a.depth a.item a.next xs (tape cx a.first) before _ k.new.octets _ k.new.state refl p is e in
    let two = again_same cx a.depth a.item k.new.state.next ys rest list k.new.octets m.new.octets k.new.state m.new.state refl q (next ∙ follows) d in
    let le = c.are_in.ensures.first c.if-not-are_in.false in
    let i = c.are_in.ensures.second c.if-not-are_in.false in
    inl (ordered_here cx a.depth a.node a.item _ k.new.octets m.new.octets _ k.new.state m.new.state s.new.state e d (m.auto.octets ∙ k.auto.octets)
    before list s.result a.first one two le i s.ensures.ordered)

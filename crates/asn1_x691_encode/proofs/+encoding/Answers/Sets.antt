-- Answers for the encoders of src/set.rt.
use Rattle.std.proofs.Common.{◌≡◌, ℕ, ◌+◌, ◌-◌, ◌%◌, ◌++◌, ◌<◌, Bool, true, false, List, [], length, refl, sym, ◌∙◌, ap, subst, inl, inr, arith}
use Rattle.asn1_bits.specs.Bits.{bits}
use Rattle.asn1_schema.specs.Pieces.{Parts}
use Rattle.asn1_schema.specs.PiecesOfParts.{bits_at}
use Rattle.asn1_x691_writers.specs.Written.{IsAlike}
use Rattle.asn1_x691_encode.specs.Encoding.{Outcome, tape, types, in_order_in}
use Rattle.asn1_x691_encode.specs.OtherSteps.{alike_bit, left_same, again_left, again_same, again_rest, again_alike}
use Rattle.asn1_x691_encode.specs.Sets.{IsOrdered}
use Rattle.asn1_x691_encode.specs.SetSteps.{alike_back, ordered_alike, follows_alike, next_fails, next_on, ordered_here, wide, item_fails, items_done, items_on}
use Rattle.asn1_x691_encode.proofs.+encoding.Goals as goal

not_both : (b : Bool) → b ≡ false → b ≡ true → ⊥
not_both b e f = cc

pub encode_set_items-returns-then-not-encode_item : goal.set::encode_set_items-returns-then-not-encode_item
encode_set_items-returns-then-not-encode_item t c =
    let a = c.args in
    let cx = a.context.now in
    let l = c.loop-left in
    let k = c.encode_item in
    let g = l.invariant in
    item_fails cx a.depth a.node a.item g.before _ a.octets.now l.octets k.new.octets a.state.now l.state k.new.state l.left c.loop-left-test.true
    g.underway (subst
    (λ (b : Bool). Outcome cx (in_order_in cx a.depth a.node a.item g.before) l.octets l.state k.new.octets k.new.state b)
    c.if-not-encode_item.true (k.ensures g.before g.last))

pub encode_set_items-loop-left-preserved : goal.set::encode_set_items-loop-left-preserved
encode_set_items-loop-left-preserved t c =
    let a = c.args in
    let cx = a.context.now in
    let l = c.loop-left in
    let k = c.encode_item in
    let g = l.invariant in
    items_on cx a.depth a.node a.item a.count l.left _ l.previous a.octets.now l.octets k.new.octets a.state.now l.state k.new.state
    c.loop-left-test.true g
    (subst
    (λ (b : Bool). Outcome cx (in_order_in cx a.depth a.node a.item g.before) l.octets l.state k.new.octets k.new.state b)
    c.if-not-encode_item.false (k.ensures g.before g.last)) k.auto.octets refl refl

pub encode_set_items-returns : goal.set::encode_set_items-returns
encode_set_items-returns t c =
    let a = c.args in
    let l = c.loop-left in
    let g = l.invariant in
    items_done a.context.now a.depth a.node a.item g.before _ a.octets.now l.octets a.state.now l.state l.left
    (omega (arith, c.loop-left-test.false)) g.underway

pub encode_next-returns-then-not-encode_node : goal.set::encode_next-returns-then-not-encode_node
encode_next-returns-then-not-encode_node t c before g =
    let a = c.args in
    let k = c.encode_node in
    next_fails a.context.now a.depth a.node a.item before a.octets.now k.new.octets a.state.now k.new.state c.if-not-encode_node.ensures

pub encode_next-returns-then-are_in : goal.set::encode_next-returns-then-are_in
encode_next-returns-then-are_in t c before g =
    let a = c.args in
    let cx = a.context.now in
    let old = a.state.now in
    let k = c.encode_node in
    let m = c.is_ordered in
    let e = c.if-not-encode_node.ensures in
    let le = c.are_in.ensures.first c.if-are_in.true in
    let i = c.are_in.ensures.second c.if-are_in.true in
    let here = ordered_here cx a.depth a.node a.item g.was a.octets.now k.new.octets g.begun old k.new.state m.new.state g.encoded e
    (k.auto.octets ∙ g.size) before e.written.list m.result old.next g.bits refl (omega (arith, le, g.at)) i
    (subst
    (λ (n : ℕ). IsOrdered cx.is_aligned a.node old.next (bits_at (bits k.new.octets) n (old.at - n)) old.at
    (bits_at (bits k.new.octets) old.at (k.new.state.at - old.at)) m.new.state m.result) (sym g.at) m.ensures.ordered) in
    next_on cx a.depth a.node a.item before g.begun.at g.encoded.parts
    (subst (λ (l : List Bool). (types cx a.depth a.item g.begun.at).encoding.encodes g.encoded.parts l) g.bits
    (g.encoded.written.encodes g.begun.at (λ q. refl))) a.octets.now k.new.octets old k.new.state m.new.state e
    (follows_alike cx a.depth a.node a.item g) m.result m.ensures.kept (inl here)

pub encode_next-returns : goal.set::encode_next-returns
encode_next-returns t c before g =
    let a = c.args in
    let cx = a.context.now in
    let old = a.state.now in
    let k = c.encode_node in
    let m = c.are_ordered_alone in
    let e = c.if-not-encode_node.ensures in
    let follows = follows_alike cx a.depth a.node a.item g in
    let p = subst (λ (l : List Bool). (types cx a.depth a.item g.begun.at).encoding.encodes g.encoded.parts l) g.bits
    (g.encoded.written.encodes g.begun.at (λ q. refl)) in
    let here : (types cx a.depth a.item old.at).encoding.encodes e.parts e.written.list = e.written.encodes old.at (λ q. refl) in
    next_on cx a.depth a.node a.item before g.begun.at g.encoded.parts p a.octets.now k.new.octets old k.new.state m.new.state e follows m.result
    m.ensures.kept
    (m.ensures.ordered old.at g.encoded.parts e.parts (tape cx k.new.state.next) before e.written.list
    (subst (λ (n : ℕ). IsAlike cx.is_aligned old.at (n + length before)) g.at
    (alike_back cx.is_aligned (g.begun.at + length before) old.at follows))
    (subst (λ (n : ℕ). (types cx a.depth a.item n).encoding.encodes g.encoded.parts before) g.at p)
    (subst (λ (n : ℕ). tape cx n ≡ g.encoded.parts ++ tape cx old.next) g.next g.encoded.taken)
    here e.taken)

-- ---- in octets of their own

pub are_ordered_alone-returns-then-not-encode_node-clause-ordered : goal.set::are_ordered_alone-returns-then-not-encode_node-clause-ordered
are_ordered_alone-returns-then-not-encode_node-clause-ordered t c at xs ys rest before list h p is q follows =
    let a = c.args in
    let cx = a.context.now in
    let k = c.encode_node in
    let s = c.stop in
    inr (
      s.ensures.result,
      left_same cx k.new.state s.new.state s.ensures.next s.ensures.node s.ensures.reason
          (again_left cx a.depth a.item a.place.at a.place.next (a.place.at % 8) xs (tape cx a.first) before [] k.new.octets _ k.new.state
          refl refl (alike_bit cx.is_aligned a.place.at a.place.at (λ w. refl)) p is c.if-not-encode_node.ensures),
    )

pub are_ordered_alone-returns-then-not-encode_node-2-clause-ordered : goal.set::are_ordered_alone-returns-then-not-encode_node-2-clause-ordered
are_ordered_alone-returns-then-not-encode_node-2-clause-ordered t c at xs ys rest before list h p is q follows =
    let a = c.args in
    let cx = a.context.now in
    let k = c.encode_node in
    let m = c.encode_node-2 in
    let s = c.stop-then-not-encode_node-2 in
    let e = c.if-not-encode_node.ensures in
    let bit = alike_bit cx.is_aligned a.place.at a.place.at (λ w. refl) in
    let next = again_rest cx a.depth a.item a.place.at a.place.next (a.place.at % 8) xs (tape cx a.first) before _ k.new.octets _ k.new.state
    refl refl bit p is e in
    let middle = again_alike cx a.depth a.item a.place.at a.place.next (a.place.at % 8) xs (tape cx a.first) before _ k.new.octets _ k.new.state
    refl refl bit p is e at h in
    inr (
      s.ensures.result,
      left_same cx m.new.state s.new.state s.ensures.next s.ensures.node s.ensures.reason
          (again_left cx a.depth a.item at k.new.state.next k.new.state.at ys rest list k.new.octets m.new.octets k.new.state m.new.state
          refl refl middle q (next ∙ follows) c.if-not-encode_node-2.ensures),
    )

pub are_ordered_alone-returns-then-not-are_in-clause-ordered : goal.set::are_ordered_alone-returns-then-not-are_in-clause-ordered
are_ordered_alone-returns-then-not-are_in-clause-ordered t c at xs ys rest before list h p is q follows =
    let a = c.args in
    let cx = a.context.now in
    let k = c.encode_node in
    let m = c.encode_node-2 in
    let s = c.leave_unread in
    let e = c.if-not-encode_node.ensures in
    let d = c.if-not-encode_node-2.ensures in
    let bit = alike_bit cx.is_aligned a.place.at a.place.at (λ w. refl) in
    let one = again_same cx a.depth a.item a.place.at a.place.next (a.place.at % 8) xs (tape cx a.first) before _ k.new.octets _ k.new.state
    refl refl bit p is e in
    let next = again_rest cx a.depth a.item a.place.at a.place.next (a.place.at % 8) xs (tape cx a.first) before _ k.new.octets _ k.new.state
    refl refl bit p is e in
    let middle = again_alike cx a.depth a.item a.place.at a.place.next (a.place.at % 8) xs (tape cx a.first) before _ k.new.octets _ k.new.state
    refl refl bit p is e at h in
    let two = again_same cx a.depth a.item at k.new.state.next k.new.state.at ys rest list k.new.octets m.new.octets k.new.state m.new.state
    refl refl middle q (next ∙ follows) d in
    inr (
      s.ensures.result,
      inr (
        s.ensures.reason,
        inr (record {
          depth = a.depth;
          item = a.item;
          began = a.place.at;
          at = at;
          xs = xs;
          ys = ys;
          before = before;
          list = list;
          rest = rest;
          first = p;
          second = q;
          are = ap (λ (n : ℕ). tape cx n) s.ensures.next ∙ is ∙ ap (λ (l : Parts). xs ++ l) follows;
          many = subst (λ (l : List Bool). 504 < length before + length l) two
              (subst (λ (l : List Bool). 504 < length l + length d.written.list) one
              (wide cx a.depth a.node a.item _ k.new.octets m.new.octets _ k.new.state m.new.state s.new.state e d
              (m.auto.octets ∙ k.auto.octets) (omega arith) (m.auto.octets ∙ k.auto.octets)
              (λ le i. not_both c.are_in.result c.if-not-are_in.true (c.are_in.ensures.both le i))));
        }),
      ),
    )

pub are_ordered_alone-returns-clause-ordered : goal.set::are_ordered_alone-returns-clause-ordered
are_ordered_alone-returns-clause-ordered t c at xs ys rest before list h p is q follows =
    let a = c.args in
    let cx = a.context.now in
    let k = c.encode_node in
    let m = c.encode_node-2 in
    let s = c.is_ordered in
    let e = c.if-not-encode_node.ensures in
    let d = c.if-not-encode_node-2.ensures in
    let bit = alike_bit cx.is_aligned a.place.at a.place.at (λ w. refl) in
    let one = again_same cx a.depth a.item a.place.at a.place.next (a.place.at % 8) xs (tape cx a.first) before _ k.new.octets _ k.new.state
    refl refl bit p is e in
    let next = again_rest cx a.depth a.item a.place.at a.place.next (a.place.at % 8) xs (tape cx a.first) before _ k.new.octets _ k.new.state
    refl refl bit p is e in
    let middle = again_alike cx a.depth a.item a.place.at a.place.next (a.place.at % 8) xs (tape cx a.first) before _ k.new.octets _ k.new.state
    refl refl bit p is e at h in
    let two = again_same cx a.depth a.item at k.new.state.next k.new.state.at ys rest list k.new.octets m.new.octets k.new.state m.new.state
    refl refl middle q (next ∙ follows) d in
    let le = c.are_in.ensures.first c.if-not-are_in.false in
    let i = c.are_in.ensures.second c.if-not-are_in.false in
    inl (ordered_alike cx.is_aligned a.node a.first before list at k.new.state.at s.new.state s.result middle
    (ordered_here cx a.depth a.node a.item _ k.new.octets m.new.octets _ k.new.state m.new.state s.new.state e d (m.auto.octets ∙ k.auto.octets)
    before list s.result a.first one two le i s.ensures.ordered))

use Rattle.std.proofs.Common.{◌≡◌, ℕ, List, ◌++◌, length, get_or, refl, ap, ◌∙◌, arith}
use Rattle.asn1_oid.specs.Writing.{low_octets}
use Rattle.asn1_oid.proofs.PushLemmas.{room_is_within, word_pushed, arc_pushed, back_pushed}
use Rattle.asn1_oid.proofs.oid_contents.OidContents.append_to.Goals as goal

pub returns-in_err-reserve-clause-free : goal.returns-in_err-reserve-clause-free
returns-in_err-reserve-clause-free c = λ empty.
    let inside = c.self.inside in
    let none = ap length (c.self.view_is ∙ empty) in
    let within = room_is_within inside.octets inside.left inside.arcs.now inside.back inside.back_left in
    let full = c.in_err-reserve.ensures.full in
    absurd (omega arith)

pub returns-in_err-reserve-clause-in_room : goal.returns-in_err-reserve-clause-in_room
returns-in_err-reserve-clause-in_room c = λ room.
    let inside = c.self.inside in
    let same = ap length c.self.view_is in
    let within = room_is_within inside.octets inside.left inside.arcs.now inside.back inside.back_left in
    let full = c.in_err-reserve.ensures.full in
    absurd (omega arith)

pub loop-arc-init : goal.loop-arc-init
loop-arc-init c =
    let inside = c.self.inside in
    let pushed = c.push_word.ensures in
    let room = c.in_ok-reserve.ensures.ok in
    record {
      items = word_pushed c.args.octets.now.items c.push_word.new.octets.items inside.octets inside.left
          (pushed.items ∙ ap (λ (l : List ℕ). l ++ low_octets inside.octets inside.left) c.in_ok-reserve.ensures.items);
      room = let len = pushed.len in let same = pushed.capacity in omega arith;
    }

pub loop-arc-preserved : goal.loop-arc-preserved
loop-arc-preserved c =
    let inside = c.self.inside in
    let pushed = c.push_arc.ensures in
    let so_far = c.loop-arc.invariant in
    record {
      items = arc_pushed c.args.octets.now.items c.loop-arc.octets.items c.push_arc.new.octets.items inside.arcs.now
          inside.octets inside.left c.loop-arc.arc-index (get_or inside.arcs.now c.loop-arc.arc-index 0)
          c.loop-arc-test.true refl so_far.items pushed.items;
      room = let len = pushed.len in let same = pushed.capacity in let here = so_far.room in omega arith;
    }

pub returns-clause-ok : goal.returns-clause-ok
returns-clause-ok c =
    let inside = c.self.inside in
    let done : length inside.arcs.now ≡ c.loop-arc.arc-index =
    let end = c.loop-arc.auto.arc-index-end in let past = c.loop-arc-test.false in omega arith in
    back_pushed c.args.octets.now.items c.loop-arc.octets.items c.push_word-2.new.octets.items inside.octets
    inside.left inside.arcs.now inside.back inside.back_left c.loop-arc.arc-index done c.loop-arc.invariant.items
    c.push_word-2.ensures.items
    ∙ ap (λ (l : List ℕ). c.args.octets.now.items ++ l) c.self.view_is

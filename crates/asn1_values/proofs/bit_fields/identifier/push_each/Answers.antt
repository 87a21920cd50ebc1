use Rattle.std.proofs.Common.{◌^◌, ◌<◌, ◌≤◌, arith}
use Rattle.asn1_values.proofs.SixteenLemmas.{Pushing, pushing_none, word_pushed, octet_taken, full_or_not, word_fits, all_pushed}
use Rattle.asn1_values.proofs.bit_fields.identifier.push_each.Goals as goal
use Rattle.asn1_values.proofs.bit_fields.identifier.push_each.Goals.{then-width-eq128, else-width-eq128}

pub loop-octet-init : goal.loop-octet-init
loop-octet-init c = pushing_none c.args.appender.now c.into_iter-octet-iterator.result c.args.turns.now.count

pub overflow_mul-word : goal.overflow_mul-word
overflow_mul-word c =
    let inv = c.loop-octet.invariant in
    let small : c.if-width-eq128.word < 2 ^ 120 = elim c.if-width-eq128.branch [
      | then-width-eq128 w ↦ rw w.word-is (omega arith)
      | else-width-eq128 w ↦ rw w.word-is (word_fits _ _ _ _ _ _ _ _ inv w.if-width-eq128.false)
    ] in
    omega arith

pub overflow_add-word : goal.overflow_add-word
overflow_add-word c =
    let inv = c.loop-octet.invariant in
    let small : c.if-width-eq128.word < 2 ^ 120 = elim c.if-width-eq128.branch [
      | then-width-eq128 w ↦ rw w.word-is (omega arith)
      | else-width-eq128 w ↦ rw w.word-is (word_fits _ _ _ _ _ _ _ _ inv w.if-width-eq128.false)
    ] in
    let octet : c.in-Some.octet < 256 = omega arith in
    omega (arith, c.from.ensures)

pub loop-octet-preserved : goal.loop-octet-preserved
loop-octet-preserved c =
    let inv = c.loop-octet.invariant in
    let old = c.args.appender.now in
    let all = c.into_iter-octet-iterator.result in
    let rest = c.loop-octet.octet-iterator in
    let count = c.args.turns.now.count in
    let after : Pushing old c.if-width-eq128.appender all rest c.if-width-eq128.word c.if-width-eq128.width count
    c.if-width-eq128.turns.count × (c.if-width-eq128.width ≤ 120) =
    elim c.if-width-eq128.branch [
      | then-width-eq128 w ↦
          let full = rw w.if-width-eq128.true at inv in
          rw (w.appender-is, w.turns-is, w.word-is, w.width-is) (
            word_pushed old c.loop-octet.appender w.push_wide.new.self all rest c.loop-octet.word count
                c.loop-octet.turns.count w.push_wide.new.turns.count full
                w.push_wide.ensures.lender (rw w.if-width-eq128.true at w.push_wide.ensures.written)
                (rw w.if-width-eq128.true at w.push_wide.ensures.room)
                w.push_wide.ensures.each_turn_places
                (rw w.if-width-eq128.true at w.push_wide.ensures.at_least)
                (rw w.if-width-eq128.true at w.push_wide.ensures.at_most),
            omega arith,
          )
      | else-width-eq128 w ↦ rw (w.appender-is, w.turns-is, w.word-is, w.width-is)
          (inv, full_or_not _ _ _ _ _ _ _ _ inv w.if-width-eq128.false)
    ] in
    let octet : c.in-Some.octet < 256 = omega arith in
    rw c.from.ensures
    (octet_taken old c.if-width-eq128.appender all rest c.next.new.self c.if-width-eq128.word c.if-width-eq128.width
    c.in-Some.octet count c.if-width-eq128.turns.count after.0 after.1 octet c.in-Some.ensures.steps)

pub returns : goal.returns
returns c =
    let l = c.loop-octet in
    let new = c.push_wide-2.new in
    let p = c.push_wide-2.ensures in
    rw c.into_iter-octet-iterator.ensures.into_iter_gives at
    (all_pushed c.args.appender.now l.appender new.self c.into_iter-octet-iterator.result l.octet-iterator l.word l.width
    c.args.turns.now.count l.turns.count new.turns.count l.invariant c.in-None.ensures.steps.0 p.lender p.written p.room
    p.each_turn_places p.at_least p.at_most)

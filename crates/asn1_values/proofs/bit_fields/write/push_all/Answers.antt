use Rattle.std.proofs.Common.{◌+◌, ◌++◌, ◌∙◌, Bool, List, take, drop, ap, append_assoc, arith}
use Rattle.std.proofs.lemmas.List.{take_all}
use Rattle.asn1_bits.specs.BitAppender.{bits_written}
use Rattle.asn1_bits.specs.Bits.{digits}
use Rattle.asn1_values.specs.Plain.{plain_fields, plain_field}
use Rattle.asn1_values.proofs.SpellingLemmas.{cut_of, more_of, field_fits}
use Rattle.asn1_values.proofs.GatherLemmas.{gathering_none, gathering_more, gathering_room, gathering_fits, gathered_all, gathered_turns}
use Rattle.asn1_values.proofs.bit_fields.write.push_all.Goals as goal

pub push-requires : goal.push-requires
push-requires c =
    let fs = c.args.fields.now in
    let i = c.loop-field.field-index in
    let x = c.field-item.result in
    gathering_room (plain_fields fs) (plain_fields (take i fs)) (plain_fields (drop (i + 1) fs)) (plain_field x)
    (cut_of fs i x c.loop-field-test.true c.field-item.is) c.args.appender.now c.loop-field.appender
    c.loop-field.gathered.word c.loop-field.gathered.width c.args.turns.now.count c.loop-field.turns.count c.requires
    c.loop-field.invariant

pub loop-field-init : goal.loop-field-init
loop-field-init c =
    gathering_none c.args.appender.now c.none-gathered.result.word c.none-gathered.result.width c.args.turns.now.count
    c.none-gathered.ensures

pub loop-field-preserved : goal.loop-field-preserved
loop-field-preserved c =
    let fs = c.args.fields.now in
    let i = c.loop-field.field-index in
    let x = c.field-item.result in
    rw (more_of fs i x c.loop-field-test.true c.field-item.is)
    (gathering_more (plain_fields (take i fs)) (plain_field x) c.args.appender.now c.loop-field.appender
    c.push.new.appender c.loop-field.gathered.word c.loop-field.gathered.width c.push.new.gathered.word
    c.push.new.gathered.width c.args.turns.now.count c.loop-field.turns.count c.push.new.turns.count
    c.loop-field.invariant c.in_ok-push.ensures.pushed)

-- ---- a character that its alphabet lacks

pub returns-in_err-push : goal.returns-in_err-push
returns-in_err-push c =
    let fs = c.args.fields.now in
    let i = c.loop-field.field-index in
    let x = c.field-item.result in
    let w = c.loop-field.invariant in
    let none = c.in_err-push.ensures.refused in
    rw c.from_residual.ensures (record {
      lender = none.lender ∙ w.lender;
      kept = (w.front, none.kept ∙ w.written);
      pushed = tt;
      counted = tt;
      each_turn_places = tt;
      lacking = λ list s.
          none.lacking
          (field_fits (plain_fields fs) (plain_fields (take i fs)) (plain_fields (drop (i + 1) fs)) (plain_field x)
          (cut_of fs i x c.loop-field-test.true c.field-item.is) list s);
    })

-- ---- all of them

pub push-requires-2 : goal.push-requires-2
push-requires-2 c =
    gathering_fits (plain_fields c.args.fields.now) c.args.appender.now c.loop-field.appender c.loop-field.gathered.word
    c.loop-field.gathered.width c.args.turns.now.count c.loop-field.turns.count c.requires
    (rw (take_all c.loop-field.field-index c.args.fields.now (omega (arith, c.loop-field-test.false)))
    at c.loop-field.invariant)

pub returns : goal.returns
returns c =
    let fs = plain_fields c.args.fields.now in
    let old = c.args.appender.now in
    let now = c.loop-field in
    let new = c.push-2.new in
    let word = now.gathered.word in
    let width = now.gathered.width in
    let last = c.push-2.ensures in
    let digits_left = digits word width in
    let count = c.args.turns.now.count in
    let all =
    rw (take_all now.field-index c.args.fields.now (omega (arith, c.loop-field-test.false))) at now.invariant in
    record {
      lender = last.pushed.lender ∙ all.lender;
      kept = (
        all.front ++ digits_left,
        last.pushed.written ∙ ap (λ (l : List Bool). l ++ digits_left) all.written
            ∙ append_assoc (bits_written old) all.front digits_left,
      );
      pushed =
          gathered_all fs old now.appender new.appender word width new.self.width count now.turns.count new.turns.count
          all last;
      counted =
          gathered_turns fs old now.appender new.appender word width new.self.width count now.turns.count new.turns.count
          all last;
      each_turn_places = omega (arith, all.each_turn_places, last.pushed.each_turn_places);
      lacking = tt;
    }

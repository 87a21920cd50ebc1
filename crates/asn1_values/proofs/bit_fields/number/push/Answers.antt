use Rattle.std.proofs.Common.{refl}
use Rattle.asn1_bits.specs.BitAppender.{room}
use Rattle.asn1_bits.specs.Bits.{digits}
use Rattle.asn1_bits.specs.Laws.DigitLaws.{length-digits}
use Rattle.asn1_values.specs.Fields.{Number}
use Rattle.asn1_values.proofs.SpellingLemmas.{space_of, list_pushed, one_pushed}
use Rattle.asn1_values.proofs.GatherLemmas.{space_behind, width_behind, room_behind, field_behind}
use Rattle.asn1_values.proofs.bit_fields.number.push.Goals as goal

pub add-requires-clause-room : goal.add-requires-clause-room
add-requires-clause-room c =
    let n = c.args.value in
    let w = c.args.width in
    let fits = c.requires.some in
    space_behind (Number n w) (digits n w) w c.args.gathered.now.width (room c.args.appender.now)
    (fits.1.0, fits.1.1, refl) (length-digits n w) c.requires

pub push-requires : goal.push-requires
push-requires c =
    width_behind (Number c.args.value c.args.width) c.args.gathered.now.width (room c.args.appender.now) c.requires

pub push_number-requires-clause-room : goal.push_number-requires-clause-room
push_number-requires-clause-room c =
    let n = c.args.value in
    let w = c.args.width in
    let fits = c.requires.some in
    let before = c.args.gathered.now in
    let after = c.push.new.self in
    space_of (Number n w) (digits n w) w (room c.push.new.appender) (fits.1.0, fits.1.1, refl) (length-digits n w)
    (room_behind (Number n w) c.args.appender.now c.push.new.appender before.word before.width after.width
    c.args.turns.now.count c.push.new.turns.count c.push.ensures c.requires)

pub returns-else-width-le21 : goal.returns-else-width-le21
returns-else-width-le21 c =
    let n = c.args.value in
    let w = c.args.width in
    let fits = c.requires.some in
    let pushed = c.push_number.ensures in
    let before = c.args.gathered.now in
    let after = c.push.new.self in
    field_behind (Number n w) c.args.appender.now c.push.new.appender c.push_number.new.self before.word before.width
    after.word after.width c.args.turns.now.count c.push.new.turns.count c.push_number.new.turns.count
    c.push.ensures
    (one_pushed (Number n w) (digits n w) c.push.new.appender c.push_number.new.self c.push.new.turns.count
    c.push_number.new.turns.count (fits.1.0, fits.1.1, refl)
    (list_pushed (digits n w) w c.push.new.appender c.push_number.new.self c.push.new.turns.count
    c.push_number.new.turns.count (length-digits n w) pushed.lender pushed.written pushed.room pushed.each_turn_places pushed.at_least
    pushed.at_most))

pub returns-then-width-le21 : goal.returns-then-width-le21
returns-then-width-le21 c =
    let n = c.args.value in
    let w = c.args.width in
    let fits = c.requires.some in
    record {
      list = digits n w;
      spelled = (fits.1.0, fits.1.1, refl);
      taken = c.add.ensures;
    }

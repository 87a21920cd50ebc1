use Rattle.std.proofs.Common.{refl}
use Rattle.asn1_bits.specs.BitAppender.{room}
use Rattle.asn1_bits.specs.BitStr.{view_of, bits_of}
use Rattle.asn1_bits.specs.Laws.ViewLaws.{length-list_of}
use Rattle.asn1_values.specs.Fields.{Bits}
use Rattle.asn1_values.proofs.SpellingLemmas.{space_of, list_pushed, one_pushed}
use Rattle.asn1_values.proofs.bit_fields.bits.push_few.Goals as goal

pub push_number-requires-clause-room : goal.push_number-requires-clause-room
push_number-requires-clause-room c =
    let b = c.args.bits.now in
    rw c.len.ensures.len
    (space_of (Bits (bits_of b)) (bits_of b) (view_of b).len (room c.args.appender.now) refl
    (length-list_of (view_of b) b.within) c.requires.room)

pub returns : goal.returns
returns c =
    let b = c.args.bits.now in
    let n = length-list_of (view_of b) b.within in
    let len = c.len.ensures.len in
    let pushed = c.push_number.ensures in
    one_pushed (Bits (bits_of b)) (bits_of b) c.args.appender.now c.push_number.new.self c.args.turns.now.count
    c.push_number.new.turns.count refl
    (list_pushed (bits_of b) (view_of b).len c.args.appender.now c.push_number.new.self c.args.turns.now.count
    c.push_number.new.turns.count n pushed.lender
    (rw (len, c.read_u128.ensures.digits) at pushed.written) (rw len at pushed.room) pushed.each_turn_places
    (rw len at pushed.at_least)
    (rw len at pushed.at_most))

use Rattle.std.proofs.Common.{length, arith}
use Rattle.asn1_bits.specs.BitAppender.{room}
use Rattle.asn1_bits.specs.Bits.{digits}
use Rattle.asn1_bits.specs.Laws.DigitLaws.{length-digits}
use Rattle.asn1_number.specs.Laws.LawsHold.{one_shortest_list}
use Rattle.asn1_values.proofs.SpellingLemmas.{counted_space, counted_pushed, list_pushed}
use Rattle.asn1_values.proofs.bit_fields.counted_integer.push.Goals as goal

pub push_wide-requires-clause-room : goal.push_wide-requires-clause-room
push_wide-requires-clause-room c =
    let one = one_shortest_list c.args.number.now in
    let p = counted_space c.args.number.now one.0 (room c.args.appender.now) one.1 c.requires in
    omega (arith, p.1)

pub push_shortest-requires : goal.push_shortest-requires
push_shortest-requires c = λ octets s.
    let p = counted_space c.args.number.now octets (room c.args.appender.now) s c.requires in
    omega (arith, p.1, c.push_wide.ensures.room)

pub returns : goal.returns
returns c =
    let n = c.args.number.now in
    let one = one_shortest_list n in
    let p = counted_space n one.0 (room c.args.appender.now) one.1 c.requires in
    let first = c.push_wide.ensures in
    let len = c.signed_len.ensures one.0 one.1 in
    counted_pushed n one.0 c.args.appender.now c.push_wide.new.self c.push_shortest.new.appender c.args.turns.now.count
    c.push_wide.new.turns.count c.push_shortest.new.turns.count one.1 p.0
    (list_pushed (digits (length one.0) 8) 8 c.args.appender.now c.push_wide.new.self c.args.turns.now.count
    c.push_wide.new.turns.count (length-digits (length one.0) 8) first.lender (rw len at first.written) first.room
    first.each_turn_places first.at_least first.at_most)
    (c.push_shortest.ensures one.0 one.1)

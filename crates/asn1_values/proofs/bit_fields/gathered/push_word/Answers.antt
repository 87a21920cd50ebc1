use Rattle.asn1_bits.specs.Bits.{digits}
use Rattle.asn1_bits.specs.Laws.DigitLaws.{length-digits}
use Rattle.asn1_values.proofs.SpellingLemmas.{list_pushed}
use Rattle.asn1_values.proofs.bit_fields.gathered.push_word.Goals as goal

pub returns : goal.returns
returns c =
    let d = c.args.gathered in
    let p = c.push_number.ensures in
    list_pushed (digits d.word d.width) d.width c.args.appender.now c.push_number.new.self c.args.turns.now.count
    c.push_number.new.turns.count (length-digits d.word d.width) p.lender (rw c.from.ensures at p.written) p.room
    p.each_turn_places p.at_least p.at_most

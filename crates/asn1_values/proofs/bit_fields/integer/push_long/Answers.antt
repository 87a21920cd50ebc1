use Rattle.std.proofs.Common.{Bool, List, ◌*◌, ◌++◌, length, ap, ◌∙◌}
use Rattle.asn1_bits.specs.Bits.{bits}
use Rattle.asn1_bits.specs.BitAppender.{bits_written}
use Rattle.asn1_bits.specs.Laws.DigitLaws.{length-bits}
use Rattle.asn1_values.specs.Laws.SpellingLaws.{same_shortest}
use Rattle.asn1_values.proofs.SpellingLemmas.{list_pushed}
use Rattle.asn1_values.proofs.bit_fields.integer.push_long.Goals as goal

pub returns : goal.returns
returns c = λ octets s.
    let same = c.as_ref.ensures
    ∙ same_shortest c.args.number.now c.signed_octets.result octets c.signed_octets.ensures s in
    let p = c.push_octets.ensures in
    list_pushed (bits octets) (8 * length octets) c.args.appender.now c.push_octets.new.self c.args.turns.now.count
    c.push_octets.new.turns.count (length-bits octets) p.lender
    (p.written ∙ ap (λ (l : List Bool). bits_written c.args.appender.now ++ l) (ap bits same)) (rw same at p.room)
    p.each_turn_places (rw same at p.at_least) (rw same at p.at_most)

use Rattle.std.proofs.Common.{◌*◌, length, refl}
use Rattle.asn1_bits.specs.BitAppender.{room}
use Rattle.asn1_bits.specs.Bits.{bits}
use Rattle.asn1_bits.specs.Laws.DigitLaws.{length-bits}
use Rattle.asn1_number.specs.Laws.LawsHold.{one_shortest_list}
use Rattle.asn1_values.specs.Fields.{Integer}
use Rattle.asn1_values.proofs.SpellingLemmas.{space_of, one_pushed}
use Rattle.asn1_values.proofs.bit_fields.integer.push.Goals as goal

pub push_shortest-requires : goal.push_shortest-requires
push_shortest-requires c = λ octets s.
    space_of (Integer c.args.number.now) (bits octets) (8 * length octets) (room c.args.appender.now)
    (octets, s, refl) (length-bits octets) c.requires

pub returns : goal.returns
returns c =
    let n = c.args.number.now in
    let one = one_shortest_list n in
    let o = one.0 in
    one_pushed (Integer n) (bits o) c.args.appender.now c.push_shortest.new.appender c.args.turns.now.count
    c.push_shortest.new.turns.count (o, one.1, refl) (c.push_shortest.ensures o one.1)

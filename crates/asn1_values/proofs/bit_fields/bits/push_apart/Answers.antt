use Rattle.std.proofs.Common.{refl}
use Rattle.asn1_bits.specs.BitAppender.{room}
use Rattle.asn1_bits.specs.BitStr.{view_of, bits_of}
use Rattle.asn1_bits.specs.Laws.ViewLaws.{length-list_of}
use Rattle.asn1_values.specs.Fields.{Bits}
use Rattle.asn1_values.proofs.SpellingLemmas.{space_of, list_pushed, one_pushed}
use Rattle.asn1_values.proofs.bit_fields.bits.push_apart.Goals as goal

pub push_bitslice-requires : goal.push_bitslice-requires
push_bitslice-requires c =
    let b = c.args.bits.now in
    space_of (Bits (bits_of b)) (bits_of b) (view_of b).len (room c.args.appender.now) refl
    (length-list_of (view_of b) b.within) c.requires

pub returns-else-len-le128 : goal.returns-else-len-le128
returns-else-len-le128 c =
    let b = c.args.bits.now in
    let n = length-list_of (view_of b) b.within in
    let pushed = c.push_bitslice.ensures in
    one_pushed (Bits (bits_of b)) (bits_of b) c.args.appender.now c.push_bitslice.new.self c.args.turns.now.count
    c.push_bitslice.new.turns.count refl
    (list_pushed (bits_of b) (view_of b).len c.args.appender.now c.push_bitslice.new.self c.args.turns.now.count
    c.push_bitslice.new.turns.count n pushed.lender pushed.written pushed.room
    pushed.each_turn_places pushed.at_least pushed.at_most)

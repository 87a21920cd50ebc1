use Rattle.std.proofs.Common.{◌*◌, length, refl, arith}
use Rattle.asn1_bits.specs.BitAppender.{room}
use Rattle.asn1_bits.specs.Bits.{bits}
use Rattle.asn1_bits.specs.Octets.{octets_in}
use Rattle.asn1_bits.specs.Laws.DigitLaws.{length-bits}
use Rattle.asn1_values.specs.Fields.{Octets}
use Rattle.asn1_values.proofs.GatherLemmas.{space_behind, octets_room, octets_behind}
use Rattle.asn1_values.proofs.bit_fields.octets.push.Goals as goal

pub from_octets-bits-requires : goal.from_octets-bits-requires
from_octets-bits-requires c =
    let o = octets_in c.args.octets.now in
    let s =
    space_behind (Octets o) (bits o) (8 * length o) c.args.gathered.now.width (room c.args.appender.now)
    (c.as_ref.ensures.octets, refl) (length-bits o) c.requires in
    rw c.as_ref.ensures.list (omega (arith, s, c.room-room.ensures))

pub push-requires : goal.push-requires
push-requires c =
    rw (c.from_octets-bits.ensures.list, c.as_ref.ensures.list)
    (octets_room (octets_in c.args.octets.now) c.args.gathered.now.width (room c.args.appender.now)
    c.as_ref.ensures.octets c.requires)

pub returns : goal.returns
returns c =
    octets_behind (octets_in c.args.octets.now) c.args.appender.now c.push.new.appender c.args.gathered.now.word
    c.args.gathered.now.width c.push.new.gathered.word c.push.new.gathered.width c.args.turns.now.count
    c.push.new.turns.count c.as_ref.ensures.octets
    (rw (c.from_octets-bits.ensures.list, c.as_ref.ensures.list) at c.push.ensures)

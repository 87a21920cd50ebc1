use Rattle.std.proofs.Common.{refl}
use Rattle.asn1_bits.specs.BitAppender.{room}
use Rattle.asn1_bits.specs.BitStr.{view_of, bits_of}
use Rattle.asn1_bits.specs.Laws.ViewLaws.{length-list_of}
use Rattle.asn1_values.specs.Fields.{Bits}
use Rattle.asn1_values.proofs.GatherLemmas.{space_behind, width_behind, room_behind, field_behind}
use Rattle.asn1_values.proofs.bit_fields.bits.push.Goals as goal

pub add-requires-clause-room : goal.add-requires-clause-room
add-requires-clause-room c =
    let b = c.args.bits.now in
    rw c.len-len.ensures.len
    (space_behind (Bits (bits_of b)) (bits_of b) (view_of b).len c.args.gathered.now.width (room c.args.appender.now) refl
    (length-list_of (view_of b) b.within) c.requires)

pub push-requires : goal.push-requires
push-requires c =
    width_behind (Bits (bits_of c.args.bits.now)) c.args.gathered.now.width (room c.args.appender.now) c.requires

pub push_apart-requires : goal.push_apart-requires
push_apart-requires c =
    let before = c.args.gathered.now in
    let now = c.push.new in
    room_behind (Bits (bits_of c.args.bits.now)) c.args.appender.now now.appender before.word before.width now.self.width
    c.args.turns.now.count now.turns.count c.push.ensures c.requires

pub returns-then-len-le32 : goal.returns-then-len-le32
returns-then-len-le32 c =
    record {
      list = bits_of c.args.bits.now;
      spelled = refl;
      taken = rw (c.len-len.ensures.len, c.read_u128.ensures.digits) at c.add.ensures;
    }

pub returns-else-len-le32 : goal.returns-else-len-le32
returns-else-len-le32 c =
    let before = c.args.gathered.now in
    let now = c.push.new in
    let new = c.push_apart.new in
    field_behind (Bits (bits_of c.args.bits.now)) c.args.appender.now now.appender new.appender before.word before.width
    now.self.word now.self.width c.args.turns.now.count now.turns.count new.turns.count c.push.ensures
    c.push_apart.ensures

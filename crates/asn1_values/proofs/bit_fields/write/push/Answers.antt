use Rattle.asn1_values.specs.Fields.{Integer, CountedInteger, Identifier}
use Rattle.asn1_values.proofs.GatherLemmas.{room_behind, field_behind}
use Rattle.asn1_values.proofs.bit_fields.write.push.Goals as goal

-- ---- room after what was gathered

pub push-requires-in-Integer-2 : goal.push-requires-in-Integer-2
push-requires-in-Integer-2 c =
    let before = c.args.gathered.now in
    let now = c.push-in-Integer.new in
    room_behind (Integer c.in-Integer.number) c.args.appender.now now.appender before.word before.width now.self.width
    c.args.turns.now.count now.turns.count c.push-in-Integer.ensures
    (rw c.in-Integer.is at c.requires)

pub push-requires-in-CountedInteger-2 : goal.push-requires-in-CountedInteger-2
push-requires-in-CountedInteger-2 c =
    let before = c.args.gathered.now in
    let now = c.push-in-CountedInteger.new in
    room_behind (CountedInteger c.in-CountedInteger.number) c.args.appender.now now.appender before.word before.width now.self.width
    c.args.turns.now.count now.turns.count c.push-in-CountedInteger.ensures
    (rw c.in-CountedInteger.is at c.requires)

pub push-requires-in-Oid-2 : goal.push-requires-in-Oid-2
push-requires-in-Oid-2 c =
    let before = c.args.gathered.now in
    let now = c.push-in-Oid.new in
    room_behind (Identifier c.in-Oid.oid) c.args.appender.now now.appender before.word before.width now.self.width
    c.args.turns.now.count now.turns.count c.push-in-Oid.ensures
    (rw c.in-Oid.is at c.requires)

-- ---- the field after it

pub returns-in-Integer : goal.returns-in-Integer
returns-in-Integer c =
    let before = c.args.gathered.now in
    let now = c.push-in-Integer.new in
    let new = c.push-in-Integer-2.new in
    rw c.in-Integer.is (record {
      pushed =
          field_behind (Integer c.in-Integer.number) c.args.appender.now now.appender new.appender before.word before.width
          now.self.word now.self.width c.args.turns.now.count now.turns.count new.turns.count c.push-in-Integer.ensures
          c.push-in-Integer-2.ensures;
      refused = tt;
    })

pub returns-in-CountedInteger : goal.returns-in-CountedInteger
returns-in-CountedInteger c =
    let before = c.args.gathered.now in
    let now = c.push-in-CountedInteger.new in
    let new = c.push-in-CountedInteger-2.new in
    rw c.in-CountedInteger.is (record {
      pushed =
          field_behind (CountedInteger c.in-CountedInteger.number) c.args.appender.now now.appender new.appender before.word before.width
          now.self.word now.self.width c.args.turns.now.count now.turns.count new.turns.count c.push-in-CountedInteger.ensures
          c.push-in-CountedInteger-2.ensures;
      refused = tt;
    })

pub returns-in-Oid : goal.returns-in-Oid
returns-in-Oid c =
    let before = c.args.gathered.now in
    let now = c.push-in-Oid.new in
    let new = c.push-in-Oid-2.new in
    rw c.in-Oid.is (record {
      pushed =
          field_behind (Identifier c.in-Oid.oid) c.args.appender.now now.appender new.appender before.word before.width
          now.self.word now.self.width c.args.turns.now.count now.turns.count new.turns.count c.push-in-Oid.ensures
          c.push-in-Oid-2.ensures;
      refused = tt;
    })

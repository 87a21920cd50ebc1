use Rattle.std.proofs.Common.{rules, sym, arith}
use Rattle.asn1_bits.specs.BitStr.{bits_of}
use Rattle.asn1_bits.proofs.RoomLemmas.{Filled, room-step}
use Rattle.asn1_bits.proofs.bit_appender.BitAppender.push_bitslice.Goals as goal

pub overflow_add-self : goal.overflow_add-self
overflow_add-self c = let z = c.args.self.now.zeros in omega (arith, z.within, c.len.ensures.len)

-- what is known of the buffer after the view was written
step : (c : goal.After-self-1) → Filled c.args.self.now.target.buffer.now c.write_at.new.self.buffer.now (bits_of c.args.src)
    c.args.self.now.position c.len.result
step c =
    let a = c.args.self.now in
    room-step a.target.buffer.now c.write_at.new.self.buffer.now (bits_of c.args.src) a.position c.len.result a.zeros
    c.write_at.ensures.list (sym c.len.ensures.list) (omega (arith, a.zeros.within, c.len.ensures.len))

pub invariant_of-self : goal.invariant_of-self
invariant_of-self c =
    let a = c.args.self.now in
    let f =
    room-step a.target.buffer.now c.write_at.new.self.buffer.now (bits_of c.args.src) a.position c.len.result a.zeros
    c.write_at.ensures.list (sym c.len.ensures.list) (omega (arith, a.zeros.within, c.len.ensures.len)) in
    record { zeros = f.rest }

pub returns-clause-written : goal.returns-clause-written
returns-clause-written c = (step c).taken

pub returns-clause-room : goal.returns-clause-room
returns-clause-room c =
    let z = c.args.self.now.zeros in
    let f = step c in
    omega (arith, f.len, z.within, c.len.ensures.len)

pub returns-clause-at_least : goal.returns-clause-at_least
returns-clause-at_least c = search rules

use Rattle.std.proofs.Common.{ℕ, ap, ◌∙◌, arith}
use Rattle.asn1_bits.specs.Bits.{digits, ored}
use Rattle.asn1_bits.specs.Laws.DigitLaws.{length-digits}
use Rattle.asn1_bits.proofs.RoomLemmas.{Filled, room-step}
use Rattle.asn1_bits.proofs.bit_appender.BitAppender.push.Goals as goal

pub overflow_add-self : goal.overflow_add-self
overflow_add-self c = let z = c.args.self.now.zeros in omega (arith, z.within, c.len-len.ensures)

-- what is known of the buffer after the digits were written
step : (c : goal.After-self-1) → Filled c.args.self.now.target.buffer.now c.put_few.new.self.buffer.now
    (digits c.args.value c.args.width) c.args.self.now.position c.args.width
step c =
    let a = c.args.self.now in
    room-step a.target.buffer.now c.put_few.new.self.buffer.now (digits c.args.value c.args.width) a.position c.args.width a.zeros
    (c.put_few.ensures.list ∙ ap (ored a.target.buffer.now a.position)
    (c.lowest-number.ensures.digits ∙ ap (λ (n : ℕ). digits n c.args.width) c.from.ensures)) (length-digits c.args.value c.args.width)
    (omega (arith, a.zeros.within, c.len-len.ensures))

pub invariant_of-self : goal.invariant_of-self
invariant_of-self c =
    let a = c.args.self.now in
    let f =
    room-step a.target.buffer.now c.put_few.new.self.buffer.now (digits c.args.value c.args.width) a.position c.args.width a.zeros
    (c.put_few.ensures.list ∙ ap (ored a.target.buffer.now a.position)
    (c.lowest-number.ensures.digits ∙ ap (λ (n : ℕ). digits n c.args.width) c.from.ensures)) (length-digits c.args.value c.args.width)
    (omega (arith, a.zeros.within, c.len-len.ensures)) in
    record { zeros = f.rest }

pub returns-clause-written : goal.returns-clause-written
returns-clause-written c = (step c).taken

pub returns-clause-room : goal.returns-clause-room
returns-clause-room c =
    let z = c.args.self.now.zeros in
    let f = step c in
    omega (arith, f.len, z.within, c.len-len.ensures)

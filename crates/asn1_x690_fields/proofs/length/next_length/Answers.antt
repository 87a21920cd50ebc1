use Rattle.std.proofs.Common.{arith}
use Rattle.asn1_bits.specs.Bits.{bits}
use Rattle.asn1_x690_fields.proofs.LengthSteps.{length_read}
use Rattle.asn1_x690_fields.proofs.length.next_length.Goals as goal

pub returns-clause-read : goal.returns-clause-read
returns-clause-read c =
    length_read c.args.node c.in_ok-first.first (bits c.args.octets.now) c.args.state.now c.next_octet.new.state
    c.next_long_length.new.state c.in_ok-first.ensures.read (omega (arith, c.if-first-lt128.false)) c.if-first-eq128.false
    c.if-first-eq255.false c.next_long_length.result c.next_long_length.ensures.read

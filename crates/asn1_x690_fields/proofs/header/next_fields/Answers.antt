use Rattle.std.proofs.Common.{◌*◌, length, arith}
use Rattle.asn1_bits.specs.Bits.{bits}
use Rattle.asn1_bits.specs.Laws.DigitLaws.{length-bits}
use Rattle.asn1_x690_fields.proofs.HeaderSteps.{header_fault, header_read}
use Rattle.asn1_x690_fields.proofs.header.next_fields.Goals as goal

pub returns-in-None-clause-read : goal.returns-in-None-clause-read
returns-in-None-clause-read c =
    header_fault c.args.node (bits c.args.octets.now) c.args.state.now c.next_identifier.new.state c.next_length.new.state
    c.next_octets.new.state c.in_ok-identifier.identifier c.in_ok-count.count c.in_ok-identifier.ensures.read
    c.in_ok-count.ensures.read c.in-None.ensures.read

pub returns-in-Some-clause-read : goal.returns-in-Some-clause-read
returns-in-Some-clause-read c =
    let o = c.in-Some.ensures in
    header_read c.args.node (bits c.args.octets.now) c.args.state.now c.next_identifier.new.state c.next_length.new.state
    c.next_octets.new.state c.in_ok-identifier.identifier c.in_ok-count.count c.in_ok-identifier.ensures.read
    c.in_ok-count.ensures.read c.in-Some.from c.next_octets.new.state.end (8 * length c.args.octets.now)
    (omega (arith, o.at, o.onward.ends)) (omega (arith, o.onward.inside, length-bits c.args.octets.now)) c.requires.size
    (omega (arith, o.at)) o.read

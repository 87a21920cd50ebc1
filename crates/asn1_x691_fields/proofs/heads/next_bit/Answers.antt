use Rattle.asn1_bits.specs.Bits.{bits}
use Rattle.asn1_x691_fields.specs.Outcomes.{rest}
use Rattle.asn1_x691_fields.specs.Steps.{bit_starts}
use Rattle.asn1_x691_fields.proofs.heads.next_bit.Goals as goal

pub returns-in-Some-clause-read : goal.returns-in-Some-clause-read
returns-in-Some-clause-read c = bit_starts c.args.node (rest (bits c.args.octets.now) c.args.state.now)
    (rest (bits c.args.octets.now) c.next_one.new.state) c.in-Some.n c.in-Some.ensures.read

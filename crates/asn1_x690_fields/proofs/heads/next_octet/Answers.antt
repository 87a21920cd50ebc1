use Rattle.std.proofs.Common.{arith}
use Rattle.asn1_bits.specs.Bits.{bits}
use Rattle.asn1_bits.specs.Laws.DigitLaws.{length-bits}
use Rattle.asn1_x690_fields.specs.Steps.{number_starts}
use Rattle.asn1_x690_fields.proofs.heads.next_octet.Goals as goal

pub read_bits-requires-clause-within : goal.read_bits-requires-clause-within
read_bits-requires-clause-within c =
    omega (arith, length-bits c.args.octets.now, c.requires.within.inside, c.requires.within.ends, c.if-state-lt8.false)

pub returns-clause-read : goal.returns-clause-read
returns-clause-read c = number_starts (bits c.args.octets.now) c.args.state.now 8 c.args.node
    (omega (arith, c.requires.within.ends, c.if-state-lt8.false)) c.requires.within.inside c.read_bits.result
    c.read_bits.ensures.number

use Rattle.std.proofs.Common.{arith}
use Rattle.asn1_bits.specs.Bits.{bits}
use Rattle.asn1_bits.specs.Laws.DigitLaws.{length-bits}
use Rattle.asn1_x691_fields.specs.Steps.{number_starts}
use Rattle.asn1_x691_fields.proofs.heads.next_wide.Goals as goal

pub read_wide-requires-clause-within : goal.read_wide-requires-clause-within
read_wide-requires-clause-within c =
    omega (arith, length-bits c.args.octets.now, c.requires.within.inside, c.requires.within.ends, c.if-width-state.false)

pub returns-clause-read : goal.returns-clause-read
returns-clause-read c = number_starts (bits c.args.octets.now) c.args.state.now c.args.width c.args.node
    (omega (arith, c.requires.within.ends, c.if-width-state.false)) c.requires.within.inside
    c.read_wide.result c.read_wide.ensures.number

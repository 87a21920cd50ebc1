use Rattle.std.proofs.Common.{arith}
use Rattle.asn1_bits.specs.Bits.{bits}
use Rattle.asn1_bits.specs.Laws.DigitLaws.{length-bits}
use Rattle.asn1_x691_fields.specs.Steps.{number_starts}
use Rattle.asn1_x691_fields.proofs.heads.next_one.Goals as goal

pub bit_number-requires : goal.bit_number-requires
bit_number-requires c =
    omega (arith, length-bits c.args.octets.now, c.requires.within.inside, c.requires.within.ends, c.if-at-state.false)

pub returns-clause-read : goal.returns-clause-read
returns-clause-read c = number_starts (bits c.args.octets.now) c.args.state.now 1 c.args.node
    (omega (arith, c.requires.within.ends, c.if-at-state.false)) c.requires.within.inside
    c.bit_number.result c.bit_number.ensures

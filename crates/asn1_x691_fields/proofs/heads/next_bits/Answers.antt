use Rattle.std.proofs.Common.{arith}
use Rattle.asn1_bits.specs.Bits.{bits}
use Rattle.asn1_bits.specs.Laws.DigitLaws.{length-bits}
use Rattle.asn1_x691_fields.specs.Steps.{bits_start}
use Rattle.asn1_x691_fields.proofs.heads.next_bits.Goals as goal

pub returns-clause-read : goal.returns-clause-read
returns-clause-read c = bits_start (bits c.args.octets.now) c.args.state.now c.args.count c.args.node
    (omega (arith, c.requires.within.ends, c.if-count-state.false)) c.requires.within.inside

pub returns-clause-inside : goal.returns-clause-inside
returns-clause-inside c =
    omega (arith, length-bits c.args.octets.now, c.requires.within.inside, c.requires.within.ends, c.if-count-state.false)

use Rattle.std.proofs.Common.{arith}
use Rattle.asn1_bits.specs.Bits.{bits}
use Rattle.asn1_bits.specs.Laws.DigitLaws.{length-bits}
use Rattle.asn1_x691_fields.specs.Steps.{number_starts, number_below}
use Rattle.asn1_x691_fields.proofs.heads.next_word.Goals as goal

pub number_at-requires-clause-within : goal.number_at-requires-clause-within
number_at-requires-clause-within c =
    omega (arith, length-bits c.args.octets.now, c.requires.within.inside, c.requires.within.ends, c.if-width-state.false)

pub returns-clause-below : goal.returns-clause-below
returns-clause-below c = number_below (bits c.args.octets.now) c.args.state.now.at c.args.width c.number_at.result
    (omega (arith, c.requires.within.inside, c.requires.within.ends, c.if-width-state.false)) c.number_at.ensures

pub returns-clause-read : goal.returns-clause-read
returns-clause-read c = number_starts (bits c.args.octets.now) c.args.state.now c.args.width c.args.node
    (omega (arith, c.requires.within.ends, c.if-width-state.false)) c.requires.within.inside
    c.number_at.result c.number_at.ensures

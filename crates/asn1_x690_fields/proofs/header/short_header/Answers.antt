use Rattle.std.proofs.Common.{arith}
use Rattle.asn1_bits.specs.Bits.{bits}
use Rattle.asn1_bits.specs.Laws.DigitLaws.{length-bits}
use Rattle.asn1_x690_fields.proofs.HeaderSteps.{short_element}
use Rattle.asn1_x690_fields.proofs.header.short_header.Goals as goal

pub read_bits-both-requires-clause-within : goal.read_bits-both-requires-clause-within
read_bits-both-requires-clause-within c =
    let w = c.requires.within in
    omega (arith, w.inside, w.ends, c.if-left-lt16.false, length-bits c.args.octets.now)

pub returns-clause-read : goal.returns-clause-read
returns-clause-read c = λ node.
    let w = c.requires.within in
    let both = c.read_bits-both.result in
    short_element (bits c.args.octets.now) c.args.state.now node both c.short_identifier.result
    (omega (arith, w.ends, c.if-left-lt16.false, c.if-count-left.false)) w.inside c.read_bits-both.ensures.number
    (omega (arith, c.if-first-eq31.false)) (omega (arith, c.if-count-ge128.false)) c.short_identifier.ensures

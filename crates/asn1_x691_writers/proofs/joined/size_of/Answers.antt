use Rattle.std.proofs.Common.{arith}
use Rattle.asn1_bits.specs.Bits.{bits}
use Rattle.asn1_bits.specs.Laws.DigitLaws.{length-bits}
use Rattle.asn1_x691_writers.specs.JoinedSteps.{length_in}
use Rattle.asn1_x691_writers.proofs.joined.size_of.Goals as goal

pub returns-clause-size : goal.returns-clause-size
returns-clause-size c =
    let e = length_in (bits c.args.source.now) c.args.joined.now c.requires.inside in
    omega (arith, e)

pub returns-clause-few : goal.returns-clause-few
returns-clause-few c =
    let e = length-bits c.args.source.now in
    let i = c.requires.inside in
    omega (arith, e, c.requires.source, i.whole, i.part, i.middle, i.last)

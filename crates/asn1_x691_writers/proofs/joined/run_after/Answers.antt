use Rattle.std.proofs.Common.{◌+◌, ◌-◌, ◌++◌, arith}
use Rattle.asn1_bits.specs.Bits.{bits}
use Rattle.asn1_bits.specs.Laws.DigitLaws.{length-bits}
use Rattle.asn1_schema.specs.PiecesOfParts.{bits_of}
use Rattle.asn1_x691_fields.specs.JoinedSteps.{part_run, middle_run, last_run}
use Rattle.asn1_x691_writers.proofs.JoinedLemmas.{same_run}
use Rattle.asn1_x691_writers.proofs.joined.run_after.Goals as goal

pub rest_of-requires-clause-fits : goal.rest_of-requires-clause-fits
rest_of-requires-clause-fits c = omega (arith, length-bits c.args.source.now, c.requires.inside.part, c.requires.source)

pub rest_of-requires-then-from-part-2-clause-fits : goal.rest_of-requires-then-from-part-2-clause-fits
rest_of-requires-then-from-part-2-clause-fits c =
    omega (arith, length-bits c.args.source.now, c.requires.inside.middle, c.requires.source)

pub rest_of-requires-2-clause-fits : goal.rest_of-requires-2-clause-fits
rest_of-requires-2-clause-fits c = omega (arith, length-bits c.args.source.now, c.requires.inside.last, c.requires.source)

pub returns-then-from-part-clause-same : goal.returns-then-from-part-clause-same
returns-then-from-part-clause-same c =
    let list = bits c.args.source.now in
    let j = c.args.joined.now in
    same_run list (bits_of list j.part ++ (bits_of list j.middle ++ bits_of list j.last)) c.rest_of.result (j.part.at + c.args.from)
    (j.part.count - c.args.from) c.args.from c.rest_of.ensures.at c.rest_of.ensures.count
    (part_run list j.part j.middle j.last c.requires.inside.part c.requires.inside.middle c.args.from
    (omega (arith, c.if-from-part.true)))

pub returns-then-from-part-2-clause-same : goal.returns-then-from-part-2-clause-same
returns-then-from-part-2-clause-same c =
    let list = bits c.args.source.now in
    let j = c.args.joined.now in
    let from = c.args.from in
    let k = from - j.part.count in
    let run = c.rest_of-then-from-part-2 in
    same_run list (bits_of list j.part ++ (bits_of list j.middle ++ bits_of list j.last)) run.result (j.middle.at + k)
    (j.middle.count - k) from run.ensures.at run.ensures.count
    (middle_run list j.part j.middle j.last c.requires.inside.part c.requires.inside.middle from c.if-from-part.false
    (omega (arith, c.if-from-part-2.true)))

pub returns-clause-same : goal.returns-clause-same
returns-clause-same c =
    let list = bits c.args.source.now in
    let j = c.args.joined.now in
    let from = c.args.from in
    let k = from - j.part.count - j.middle.count in
    same_run list (bits_of list j.part ++ (bits_of list j.middle ++ bits_of list j.last)) c.rest_of-2.result (j.last.at + k)
    (j.last.count - k) from c.rest_of-2.ensures.at c.rest_of-2.ensures.count
    (last_run list j.part j.middle j.last c.requires.inside.part c.requires.inside.middle from c.if-from-part.false c.if-from-part-2.false
    (omega (arith, c.requires.within)))

use Rattle.std.proofs.Common.{refl}
use Rattle.asn1_x690_writers.specs.TextSteps.{plain_in, in_plain, plain_within}
use Rattle.asn1_x690_writers.proofs.texts.are_permitted.Goals as goal

pub returns-then-are_plain-clause-alphabet : goal.returns-then-are_plain-clause-alphabet
returns-then-are_plain-clause-alphabet c e =
    let a = c.args in
    plain_in a.table.now a.source.now a.width a.text (c.if-are_plain.ensures refl) a.ranges.now (c.are_in.ensures.yes e)

pub returns-then-are_plain-clause-below : goal.returns-then-are_plain-clause-below
returns-then-are_plain-clause-below c e =
    let a = c.args in plain_within a.table.now a.source.now a.width a.text (c.if-are_plain.ensures refl)

pub returns-then-are_plain-clause-no : goal.returns-then-are_plain-clause-no
returns-then-are_plain-clause-no c e p below =
    let a = c.args in
    c.are_in.ensures.no e (in_plain a.table.now a.source.now a.width a.text (c.if-are_plain.ensures refl) a.ranges.now p)

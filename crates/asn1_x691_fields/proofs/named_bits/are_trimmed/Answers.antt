use Rattle.std.proofs.Common.{◌+◌, ◌≤◌, length, ◌∙◌, arith}
use Rattle.std.proofs.lemmas.Bool.{eqb-true}
use Rattle.asn1_bits.specs.Bits.{bits}
use Rattle.asn1_bits.specs.Laws.DigitLaws.{length-bits}
use Rattle.asn1_x691_fields.specs.TrimmedSteps.{of_least, last_one, last_zero}
use Rattle.asn1_x691_fields.proofs.named_bits.are_trimmed.Goals as goal

pub returns-then-span-least-clause-yes : goal.returns-then-span-least-clause-yes
returns-then-span-least-clause-yes c e =
    let list = bits c.args.octets.now in
    let inside : c.args.span.at + c.args.span.count ≤ length list = omega (arith, c.requires.inside, length-bits c.args.octets.now) in
    of_least list c.args.span.at c.args.span.count inside c.args.size
    (eqb-true c.args.span.count c.least_of-least.result e ∙ c.least_of-least.ensures)

pub returns-clause-yes : goal.returns-clause-yes
returns-clause-yes c e =
    let list = bits c.args.octets.now in
    let inside : c.args.span.at + c.args.span.count ≤ length list = omega (arith, c.requires.inside, length-bits c.args.octets.now) in
    last_one list c.args.span.at c.args.span.count inside c.args.size
    (omega (arith, c.if-span-least.false, c.least_of-least.ensures)) c.number_at.result c.number_at.ensures e

pub returns-clause-no : goal.returns-clause-no
returns-clause-no c e =
    let list = bits c.args.octets.now in
    let inside : c.args.span.at + c.args.span.count ≤ length list = omega (arith, c.requires.inside, length-bits c.args.octets.now) in
    last_zero list c.args.span.at c.args.span.count inside c.args.size
    (omega (arith, c.if-span-least.false, c.least_of-least.ensures)) c.number_at.result c.number_at.ensures e

use Rattle.std.proofs.Common.{sym, ◌∙◌, arith}
use Rattle.asn1_bits.specs.Bits.{bits}
use Rattle.asn1_bits.specs.Laws.DigitLaws.{length-bits}
use Rattle.asn1_x691_fields.specs.ContentSteps.{are_identifier, are_no_identifier, empty_is_none}
use Rattle.asn1_x691_fields.proofs.contents.are_subidentifiers.Goals as goal

pub returns-then-span-gt0-clause-yes : goal.returns-then-span-gt0-clause-yes
returns-then-span-gt0-clause-yes c e =
    are_identifier (bits c.args.message.now) c.args.span (omega (arith, c.requires.inside, length-bits c.args.message.now))
    c.requires.whole c.if-span-gt0.true (sym c.are_series.ensures ∙ e)

pub returns-then-span-gt0-clause-no : goal.returns-then-span-gt0-clause-no
returns-then-span-gt0-clause-no c e =
    are_no_identifier (bits c.args.message.now) c.args.span (omega (arith, c.requires.inside, length-bits c.args.message.now))
    c.requires.whole (sym c.are_series.ensures ∙ e)

pub returns-else-span-gt0-clause-no : goal.returns-else-span-gt0-clause-no
returns-else-span-gt0-clause-no c e =
    empty_is_none (bits c.args.message.now) c.args.span (omega (arith, c.requires.inside, length-bits c.args.message.now))
    c.requires.whole (omega (arith, c.if-span-gt0.false))

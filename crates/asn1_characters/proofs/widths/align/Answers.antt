use Rattle.std.proofs.Common.{arith}
use Rattle.asn1_characters.specs.Laws.WidthLaws.{few_codes}
use Rattle.asn1_characters.proofs.widths.align.Goals as goal

pub overflow_cast-result : goal.overflow_cast-result
overflow_cast-result c =
    let low =
    few_codes c.args.width c.ceil_log2.result c.requires c.ceil_log2.ensures.least in omega
    (arith, c.codes_of.ensures)

pub returns-then-aligned-clause-bound : goal.returns-then-aligned-clause-bound
returns-then-aligned-clause-bound c =
    let low =
    few_codes c.args.width c.ceil_log2.result c.requires c.ceil_log2.ensures.least in omega
    (arith, c.codes_of.ensures)

use Rattle.std.proofs.Common.{sym, arith}
use Rattle.asn1_characters.specs.Laws.WidthLaws.{ceil_log2_is}
use Rattle.asn1_characters.proofs.WidthLemmas.{digits_are_least, none_is_least}
use Rattle.asn1_characters.proofs.widths.ceil_log2.Goals as goal

pub returns-then-count-le1-clause-value : goal.returns-then-count-le1-clause-value
returns-then-count-le1-clause-value c =
    sym (ceil_log2_is c.args.count 0 (none_is_least c.args.count c.if-count-le1.true))

pub returns-then-count-le1-clause-least : goal.returns-then-count-le1-clause-least
returns-then-count-le1-clause-least c = none_is_least c.args.count c.if-count-le1.true

pub returns-clause-value : goal.returns-clause-value
returns-clause-value c =
    let is = digits_are_least c.args.count (omega arith) c.requires in
    (sym (ceil_log2_is c.args.count _ is))

pub returns-clause-least : goal.returns-clause-least
returns-clause-least c = (digits_are_least c.args.count (omega arith) c.requires)

pub returns-clause-bound : goal.returns-clause-bound
returns-clause-bound c =
    let is = digits_are_least c.args.count (omega arith) c.requires in
    (is.least 32 c.requires)

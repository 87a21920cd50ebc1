use Rattle.std.proofs.Common.{◌+◌, List, get_or, drop, subst, arith}
use Rattle.std.proofs.lemmas.List.{drop_more}
use Rattle.asn1_schema.specs.declared.tables.Range.{Range}
use Rattle.asn1_x691_fields.proofs.AlphabetLemmas.{LeadsOn, leads_here}
use Rattle.asn1_x691_fields.proofs.alphabets.ascending_at.Goals as goal

abbrev none : Range
none = record { first = 0; last = 0 }

pub returns-then-left-beyond-clause-within : goal.returns-then-left-beyond-clause-within
returns-then-left-beyond-clause-within c =
    let l = c.loop-range in
    let xs = c.args.ranges.now in
    let g = subst (λ (rest : List Range). LeadsOn xs rest l.left c.args.index) (drop_more xs l.range-index none c.loop-range-test.true) l.invariant in
    (leads_here xs (get_or xs l.range-index none) (drop (l.range-index + 1) xs) l.left c.args.index g
    (omega (arith, c.if-left-beyond.true, c.saturating_sub-beyond.ensures))).0

pub returns-then-left-beyond-clause-index : goal.returns-then-left-beyond-clause-index
returns-then-left-beyond-clause-index c =
    let l = c.loop-range in
    let xs = c.args.ranges.now in
    let g = subst (λ (rest : List Range). LeadsOn xs rest l.left c.args.index) (drop_more xs l.range-index none c.loop-range-test.true) l.invariant in
    (leads_here xs (get_or xs l.range-index none) (drop (l.range-index + 1) xs) l.left c.args.index g
    (omega (arith, c.if-left-beyond.true, c.saturating_sub-beyond.ensures))).1

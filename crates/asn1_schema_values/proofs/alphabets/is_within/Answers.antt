use Rattle.std.proofs.Common.{◌+◌, List, get_or, drop, sym, subst}
use Rattle.std.proofs.lemmas.List.{drop_more}
use Rattle.asn1_schema.specs.declared.tables.Range.{Range}
use Rattle.asn1_schema_values.specs.Tables.{IsWithin}
use Rattle.asn1_schema_values.proofs.RangeLemmas.{within_first, within_more, within_rest}
use Rattle.asn1_schema_values.proofs.alphabets.is_within.Goals as goal

abbrev none : Range
none = record { first = 0; last = 0 }

pub returns-then-not-has_each : goal.returns-then-not-has_each
returns-then-not-has_each c =
    let l = c.loop-range in
    let xs = c.args.ranges.now in
    let whole = c.args.whole.now in
    let r = get_or xs l.range-index none in
    let rest = drop_more xs l.range-index none c.loop-range-test.true in
    let P : List Range → Type 0 = λ ys. IsWithin ys whole in (
      λ is. cc,
      λ within.
          let here = subst P rest (l.invariant.back within) in
          let yes = c.has_each.ensures.1 (within_first r (drop (l.range-index + 1) xs) whole here) in
          cc,
    )

pub loop-range-preserved : goal.loop-range-preserved
loop-range-preserved c =
    let l = c.loop-range in
    let xs = c.args.ranges.now in
    let whole = c.args.whole.now in
    let r = get_or xs l.range-index none in
    let others = drop (l.range-index + 1) xs in
    let rest = drop_more xs l.range-index none c.loop-range-test.true in
    let P : List Range → Type 0 = λ ys. IsWithin ys whole in
    record {
      onward =
          λ within.
          l.invariant.onward (subst P (sym rest) (within_more r others whole (c.has_each.ensures.0 c.if-not-has_each.false) within));
      back = λ within. within_rest r others whole (subst P rest (l.invariant.back within));
    }

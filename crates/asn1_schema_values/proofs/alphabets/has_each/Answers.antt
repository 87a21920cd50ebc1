use Rattle.std.proofs.Common.{◌≡◌, ℕ, ◌∙◌, ap, sym, List, [], drop, arith, rules}
use Rattle.std.proofs.Math.ListN.{drop_of_length-le}
use Rattle.std.proofs.lemmas.Bool.{lt-ltb, ltb-true}
use Rattle.asn1_schema.specs.declared.tables.Range.{Range}
use Rattle.asn1_schema_values.proofs.RangeLemmas.{past_all, tells_each}
use Rattle.asn1_schema_values.proofs.alphabets.has_each.Goals as goal

pub returns : goal.returns
returns c =
    let xs = c.args.ranges.now in
    let next : ℕ = c.loop-range.next in
    let done : drop c.loop-range.range-index xs ≡ [] = drop_of_length-le xs (omega arith) in
    let same : next ≡ past_all xs c.args.of.first = ap (λ (l : List Range). past_all l next) (sym done) ∙ c.loop-range.invariant in
    let last : c.from-2.result ≡ c.args.of.last = search rules in
    let t = tells_each xs c.args.of.first c.args.of.last next c.requires same in (
      λ is. t.0 (omega (arith, ltb-true c.from-2.result next is)),
      λ each. lt-ltb c.from-2.result next (omega (arith, t.1 each)),
    )

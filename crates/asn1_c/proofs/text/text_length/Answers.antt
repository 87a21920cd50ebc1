use Rattle.std.proofs.Common.{◌≡◌, ◌∷◌, ◌≤◌, ◌<◌, ◌^◌, ◌∙◌, ℕ, ap, sym, length, get_or, take_all, arith, append-nil}
use Rattle.std.specs.Fmt.{decimal}
use Rattle.std.proofs.lemmas.Fmt.{length-decimal-le}
use Rattle.asn1_oid.specs.Arcs.{full_stop}
use Rattle.asn1_c.proofs.TextLemmas.{joined, dotted_from, length-dotted_more}
use Rattle.asn1_c.proofs.text.text_length.Goals as goal

pub loop-arc-init : goal.loop-arc-init
loop-arc-init c =
    let is : c.digits.result.now ≡ decimal c.args.first = c.digits.ensures ∙ c.of.ensures.digits in
    let few : length (decimal c.args.first) ≤ 10 =
    length-decimal-le 10 c.args.first (omega arith) (omega (arith, c.ranges.first))
    (omega (arith, c.ranges.first)) in
    record {
      total = ap length (is ∙ sym (append-nil (decimal c.args.first)));
      bounded = omega (arith, ap length is);
    }

pub loop-arc-preserved : goal.loop-arc-preserved
loop-arc-preserved c =
    let inv = c.loop-arc.invariant in
    let arc : ℕ = get_or c.args.others.now c.loop-arc.arc-index 0 in
    let is : c.with_stop.result.now ≡ full_stop ∷ decimal arc = c.with_stop.ensures ∙ c.of-in-loop-arc.ensures.text in
    let fits : arc < 2 ^ 32 = omega (arith, c.type_inv.others c.loop-arc.arc-index) in
    let few : length (decimal arc) ≤ 10 = length-decimal-le 10 arc (omega arith) (omega arith) (omega arith) in
    record {
      total =
          omega (
            arith,
            inv.total,
            ap length is,
            length-dotted_more c.args.first c.args.others.now c.loop-arc.arc-index
                0 c.loop-arc-test.true,
          );
      bounded = omega (arith, inv.bounded, ap length is, few);
    }

pub returns-clause-length : goal.returns-clause-length
returns-clause-length c =
    c.loop-arc.invariant.total ∙ ap (λ l. length (dotted_from c.args.first l)) (take_all _ _ c.loop-arc-test.false)
    ∙ ap length (joined c.args.first c.args.others.now)

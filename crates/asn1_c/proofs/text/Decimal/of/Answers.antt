use Rattle.std.proofs.Common.{◌-◌, ◌∙◌, arith}
use Rattle.std.proofs.lemmas.List.{length-set}
use Rattle.asn1_c.proofs.TextLemmas.{digits_behind, last_digit, more_digits, no_more_digits}
use Rattle.asn1_c.proofs.text.Decimal.of.Goals as goal

pub returns-then-left-eq0-clause-text : goal.returns-then-left-eq0-clause-text
returns-then-left-eq0-clause-text c =
    let inv = c.loop-i.invariant in
    last_digit c.args.number c.loop-i.left c.loop-i.i c.loop-i.octets (omega (arith, c.loop-i.auto)) inv.octets
    c.loop-i-test.true c.if-left-eq0.true inv.text

pub loop-i-preserved : goal.loop-i-preserved
loop-i-preserved c =
    let inv = c.loop-i.invariant in
    record {
      text =
          more_digits c.args.number c.loop-i.left c.loop-i.i c.loop-i.octets (omega (arith, c.loop-i.auto)) inv.octets
          c.loop-i-test.true c.if-left-eq0.false inv.text;
      octets = length-set _ _ _ ∙ inv.octets;
      more = λ some. omega (arith, c.if-left-eq0.false);
    }

pub unreachable-requires : goal.unreachable-requires
unreachable-requires c =
    let inv = c.loop-i.invariant in
    let some = inv.more (omega (arith, c.loop-i-test.false)) in
    no_more_digits c.args.number c.loop-i.left c.loop-i.i c.loop-i.octets (omega (arith, c.ranges.number))
    (omega (arith, c.loop-i.auto)) inv.octets c.loop-i-test.false c.loop-i.auto.i-end inv.text

pub returns-then-left-eq0-clause-digits : goal.returns-then-left-eq0-clause-digits
returns-then-left-eq0-clause-digits c =
    let inv = c.loop-i.invariant in
    digits_behind _ (9 - c.loop-i.i) c.args.number
    (last_digit c.args.number c.loop-i.left c.loop-i.i c.loop-i.octets (omega (arith, c.loop-i.auto)) inv.octets
    c.loop-i-test.true c.if-left-eq0.true inv.text)

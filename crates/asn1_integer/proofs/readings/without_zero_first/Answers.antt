use Rattle.std.proofs.Common.{rules, arith, ◌≡◌, ◌-◌, length, drop, take, get_or, ap, ◌∙◌}
use Rattle.std.proofs.lemmas.Grind.{common_steps}
use Rattle.asn1_number.specs.Octets.{unsigned}
use Rattle.asn1_integer.proofs.ReadingLemmas.{counted_after_zero}
use Rattle.asn1_integer.proofs.readings.without_zero_first.Goals as goal

pub returns-in-0-clause-value : goal.returns-in-0-clause-value
returns-in-0-clause-value c =
    let zero : get_or c.args.octets.now 0 0 ≡ 0 = omega arith in
    let rest : take (length c.args.octets.now - 1) (drop 1 c.args.octets.now) ≡ drop 1 c.args.octets.now =
    grind (arith, common_steps) in
    ap unsigned rest ∙ (counted_after_zero c.args.octets.now (omega arith) zero).1

pub returns-in_default-clause-counted : goal.returns-in_default-clause-counted
returns-in_default-clause-counted c = search rules

pub returns-in_default-2-clause-counted : goal.returns-in_default-2-clause-counted
returns-in_default-2-clause-counted c = search rules

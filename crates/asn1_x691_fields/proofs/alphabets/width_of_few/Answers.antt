use Rattle.std.proofs.Common.{◌≡◌, ◌^◌, sym, ◌∙◌, ap, arith}
use Rattle.asn1_characters.specs.Widths.{ceil_log2}
use Rattle.asn1_characters.specs.Laws.WidthLaws.{ceil_log2_is}
use Rattle.asn1_x691_fields.proofs.AlphabetLemmas.{width_of_many, width_is_ceil, power_is_least, few_bits}
use Rattle.asn1_x691_fields.proofs.alphabets.width_of_few.Goals as goal

pub returns-then-is_aligned-clause-value : goal.returns-then-is_aligned-clause-value
returns-then-is_aligned-clause-value c =
    let some = c.if-count-le1.false in
    let w = c.width_to_many-width.result in
    let r = c.next_power_of_two.result in
    let p = c.next_power_of_two.ensures in
    let is : w ≡ ceil_log2 c.args.count = width_is_ceil c.args.count w some c.width_to_many-width.ensures.value in
    let least = power_is_least w r p.power.0 p.power.1 p.lower_bound p.upper_bound in
    let same : r ≡ 2 ^ ceil_log2 w = p.power.1 ∙ ap (λ n. 2 ^ n) (sym (ceil_log2_is w p.power.0 least)) in
    rw (c.if-is_aligned.true, width_of_many, ← is) same

pub returns-then-is_aligned-clause-most : goal.returns-then-is_aligned-clause-most
returns-then-is_aligned-clause-most c =
    let w = c.width_to_many-width.result in
    let p = c.next_power_of_two.ensures in
    few_bits w c.next_power_of_two.result p.power.0 p.power.1
    (power_is_least w c.next_power_of_two.result p.power.0 p.power.1 p.lower_bound p.upper_bound) (omega (arith, c.width_to_many-width.ensures.most))

pub returns-else-is_aligned-clause-value : goal.returns-else-is_aligned-clause-value
returns-else-is_aligned-clause-value c =
    let some = c.if-count-le1.false in
    let is : c.width_to_many-width.result ≡ ceil_log2 c.args.count =
    width_is_ceil c.args.count c.width_to_many-width.result some c.width_to_many-width.ensures.value in
    rw (c.if-is_aligned.false, width_of_many) is

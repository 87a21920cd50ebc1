use Rattle.std.proofs.Common.{◌≡◌, ◌-◌, ◌^◌, ◌≤◌, Bool, true, false, List, refl, ◌∙◌, ap, arith}
use Rattle.asn1_characters.specs.Widths.{ceil_log2, least_from}
use Rattle.asn1_schema.specs.declared.tables.Range.{Range}
use Rattle.asn1_x691.specs.Alphabets.{width_of, are_within}
use Rattle.asn1_x691.specs.Leaves.{visible}
use Rattle.asn1_x691_fields.proofs.times.visible.Goals as goal

-- 7 bits, or 8 in the ALIGNED variant, hold the number of each character
numbers_fit : (aligned : Bool) → are_within visible (2 ^ width_of aligned visible - 1) ≡ true
unfolding ceil_log2 least_from
numbers_fit true = refl
numbers_fit false = refl

few_bits : (aligned : Bool) → width_of aligned visible ≤ 8
unfolding ceil_log2 least_from
few_bits true = omega arith
few_bits false = omega arith

pub returns-clause-numbers : goal.returns-clause-numbers
returns-clause-numbers c =
    let a = c.alphabet_of.ensures in
    a.is.numbers ∙ ap (λ (r : List Range). are_within r (2 ^ width_of c.alphabet_of.result.is_aligned r - 1)) a.ranges
    ∙ ap (λ (b : Bool). are_within visible (2 ^ width_of b visible - 1)) a.variant ∙ numbers_fit c.args.is_aligned

pub returns-clause-width : goal.returns-clause-width
returns-clause-width c =
    let a = c.alphabet_of.ensures in
    let e : c.alphabet_of.result.width ≡ width_of c.args.is_aligned visible =
    a.is.width ∙ ap (λ (r : List Range). width_of c.alphabet_of.result.is_aligned r) a.ranges
    ∙ ap (λ (b : Bool). width_of b visible) a.variant in
    omega (arith, e, few_bits c.args.is_aligned)

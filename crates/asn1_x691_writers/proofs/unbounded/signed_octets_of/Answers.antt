use Rattle.std.proofs.Common.{ℕ, ◌+◌, ◌-◌, ◌*◌, ◌/◌, ◌^◌, ◌<◌, ◌≤◌, ap, subst, ◌∙◌, arith}
use Rattle.std.specs.Int.{w128}
use Rattle.std.proofs.lemmas.Int.{to_z-of_z}
use Rattle.std.specs.Prelude.{◌⊎◌}
use Rattle.asn1_x691_fields.specs.Numbers.{distance}
use Rattle.asn1_x691_writers.proofs.WidthLemmas.{signed_octets, width_fewest}
use Rattle.asn1_x691_writers.proofs.unbounded.signed_octets_of.Goals as goal

pub returns-clause-few : goal.returns-clause-few
returns-clause-few c =
    let w = width_fewest c.distance_of.result 127 c.distance_of.ensures.few in
    omega (arith, w, c.width_to.ensures.value)

pub returns-clause-below : goal.returns-clause-below
returns-clause-below c =
    let s = signed_octets c.distance_of.result (c.width_to.result / 8 + 1) (ap (λ (n : ℕ). n / 8 + 1) c.width_to.ensures.value) in
    subst (λ (u : ℕ). u < 2 ^ (8 * (c.width_to.result / 8 + 1) - 1)) (c.distance_of.ensures.value ∙ ap distance (to_z-of_z w128 c.args.z c.ranges.z)) s.below

pub returns-clause-fewest : goal.returns-clause-fewest
returns-clause-fewest c =
    let count = c.width_to.result / 8 + 1 in
    let s = signed_octets c.distance_of.result count (ap (λ (n : ℕ). n / 8 + 1) c.width_to.ensures.value) in
    subst (λ (u : ℕ). (count ≤ 1) ⊎ (2 ^ (8 * count - 9) ≤ u)) (c.distance_of.ensures.value ∙ ap distance (to_z-of_z w128 c.args.z c.ranges.z)) s.fewest

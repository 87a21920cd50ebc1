use Rattle.std.proofs.Common.{◌≡◌, ◌+◌, ◌*◌, ◌^◌, ◌<◌, ◌≤◌, ◌-◌, ℕ, ℤ, ap, subst, ◌∙◌, to_z, of_z}
use Rattle.std.proofs.lemmas.Int.{to_z-of_z}
use Rattle.std.specs.Int.{w128}
use Rattle.asn1_number.specs.Shortest.{residue_at}
use Rattle.asn1_x690_writers.specs.Numbers.{mag_of}
use Rattle.asn1_x690_writers.specs.NumberSteps.{written}
use Rattle.asn1_x690_writers.proofs.integers.put_number_octets.Goals as goal

pub returns : goal.returns
returns c =
    let a = c.args in
    let same : to_z w128 (of_z w128 c.args.z) ≡ c.args.z = to_z-of_z w128 c.args.z c.ranges.z in
    let m : c.magnitude_of.result ≡ mag_of a.z = c.magnitude_of.ensures.value ∙ ap mag_of same in
    let k = c.octets_past_first-count in
    let d = c.digits_of in
    let is : d.result ≡ residue_at (k.result + 1) a.z = d.ensures.value ∙ ap (λ (z : ℤ). residue_at (k.result + 1) z) same in
    written a.z k.result d.result a.octets.now a.at c.put_wide.new.octets c.put_wide.result
    (subst (λ (n : ℕ). n < 2 ^ (8 * k.result + 7)) m k.ensures.holds)
    (λ h. subst (λ (n : ℕ). 2 ^ (8 * (k.result - 1) + 7) ≤ n) m (k.ensures.least h)) is c.put_wide.ensures

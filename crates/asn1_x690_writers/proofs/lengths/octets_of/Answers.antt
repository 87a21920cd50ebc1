use Rattle.std.proofs.Common.{◌≡◌, ℕ, ◌-◌, ◌*◌, ◌^◌, ◌≤◌, subst, arith}
use Rattle.asn1_x690_writers.proofs.lengths.octets_of.Goals as goal

pub returns-clause-least : goal.returns-clause-least
returns-clause-least c =
    let e : c.loop-octets.octets ≡ 8 = omega arith in
    subst (λ (k : ℕ). 2 ^ (8 * (k - 1)) ≤ c.args.number) e c.loop-octets.invariant

use Rattle.std.proofs.Common.{◌≡◌, ℕ, ◌-◌, ◌*◌, ◌^◌, ◌≤◌, subst, arith}
use Rattle.asn1_x690_writers.proofs.identifiers.digit_count.Goals as goal

pub returns-clause-least : goal.returns-clause-least
returns-clause-least c =
    let e : c.loop-count.count ≡ 10 = omega arith in
    subst (λ (k : ℕ). 2 ^ (7 * (k - 1)) ≤ c.args.number) e c.loop-count.invariant

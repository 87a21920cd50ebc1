use Rattle.std.proofs.Common.{ℤ, ◌≤◌, ◌^◌, SFits, pos, negsuc, subst, arith, Option}
use Rattle.std.specs.Int.{w128}
use Rattle.asn1_x691_fields.specs.Numbers.{distance}
use Rattle.asn1_x690_leaves.specs.Values.{IsValue}
use Rattle.asn1_x690_leaves.proofs.enumerations.is_value.Goals as goal

-- a number that 128 bits do not hold is none of 128 bits
not_far : (z : ℤ) → 2 ^ 127 ≤ distance z → SFits w128 z → ⊥
not_far (pos n) le f = let l = f.sfits in omega (arith, le, l)
not_far (negsuc n) le f = let l = f.sfits in omega (arith, le, l)

pub returns-in-None-clause-no : goal.returns-in-None-clause-no
returns-in-None-clause-no c e z far same = not_far z (subst (λ (v : Option ℤ). IsValue v z) c.in-None.is far)
    (subst (λ (n : ℤ). SFits w128 n) same c.ranges.number)

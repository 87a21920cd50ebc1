use Rattle.std.proofs.Common.{◌≡◌, ℕ, pos, negsuc, ℤ, Bool, true, false, sym, ◌∙◌, subst, rules, ◌^◌, ◌≤◌}
use mir.Syntax.{w128}
use mir.Val.{SFits}
use Rattle.asn1_schema.specs.declared.misfit.MisfitKind.TheVariants.{NoEncoding}
use Rattle.asn1_schema.specs.Pieces.{Integer}
use Rattle.asn1_x690.specs.Leaves.{IsAtLeast, IsInteger, leaf_of}
use Rattle.asn1_x691_writers.specs.Put.{piece_in}
use Rattle.asn1_x690_writers.specs.Put.{IsFarWithout, LeftAt}
use Rattle.asn1_x690_writers.specs.PutSteps.{leaf_none, rejected}
use Rattle.asn1_x690_writers.specs.FarSteps.{put_permitted, far_above_least, far_below_least}
use Rattle.asn1_x690_writers.proofs.integers.put_integer_at_least.Goals as goal

at_least : (b : Bool) (least : ℤ) (n : ℕ) → SFits w128 least → 2 ^ 127 ≤ n → IsAtLeast b least (pos n)
at_least true least n fits far = tt
at_least false least n fits far = far_above_least least n fits far

pub put_far-requires-clause-far : goal.put_far-requires-clause-far
put_far-requires-clause-far c ranges = let h = c.in-FarAbove.ensures ranges in (pos h.0, h.1, h.2)

pub put_far-requires-then-is_extensible-clause-far : goal.put_far-requires-then-is_extensible-clause-far
put_far-requires-then-is_extensible-clause-far c ranges = let h = c.in-FarBelow.ensures ranges in (negsuc h.0, h.1, h.2)

pub returns-then-is_extensible : goal.returns-then-is_extensible
returns-then-is_extensible c ranges =
    let a = c.args in
    let k = c.put_far-then-is_extensible in
    let p = piece_in ranges a.source.now a.part in
    let L = LeftAt (IsFarWithout a.source.now a.part p) a.node k.new.state in
    put_permitted (IsAtLeast a.is_extensible a.bound.least) L a.node p
    (λ z e. subst (λ (b : Bool). IsAtLeast b a.bound.least z) (sym c.if-is_extensible.true) tt) a.octets.now a.state.now k.new.octets
    k.new.state k.result (k.ensures ranges)

pub returns-in-FarAbove : goal.returns-in-FarAbove
returns-in-FarAbove c ranges =
    let a = c.args in
    let k = c.put_far in
    let p = piece_in ranges a.source.now a.part in
    let h = c.in-FarAbove.ensures ranges in
    let Yes : ℤ → Type 0 = IsAtLeast a.is_extensible a.bound.least in
    let fits : SFits w128 a.bound.least = search rules in
    put_permitted Yes (LeftAt (IsFarWithout a.source.now a.part p) a.node k.new.state) a.node p
    (λ z e. let same : Integer (pos h.0) ≡ Integer z = sym h.1 ∙ e in
    let is : pos h.0 ≡ z = cc in
    subst Yes is (at_least a.is_extensible a.bound.least h.0 fits h.2)) a.octets.now a.state.now k.new.octets k.new.state k.result (k.ensures ranges)

pub returns-else-is_extensible : goal.returns-else-is_extensible
returns-else-is_extensible c ranges =
    let a = c.args in
    let k = c.reject-in-FarBelow in
    let p = piece_in ranges a.source.now a.part in
    let h = c.in-FarBelow.ensures ranges in
    let fits : SFits w128 a.bound.least = search rules in
    let Yes : ℤ → Type 0 = IsAtLeast a.is_extensible a.bound.least in
    rejected (LeftAt (IsFarWithout a.source.now a.part p) a.node k.new.state) (leaf_of IsInteger Yes Integer a.node) p a.octets.now a.state.now
    k.new.state k.result a.node NoEncoding k.ensures.result k.ensures.at k.ensures.next k.ensures.node k.ensures.reason
    (leaf_none IsInteger Yes Integer a.node p (negsuc h.0) h.1
    (λ l i y. far_below_least a.bound.least h.0 fits h.2
    (subst (λ (b : Bool). IsAtLeast b a.bound.least (negsuc h.0)) c.if-is_extensible.false y)))

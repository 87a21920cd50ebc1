use Rattle.std.proofs.Common.{pos, negsuc, ℤ, Bool, sym, subst, rules}
use mir.Syntax.{w128}
use mir.Val.{SFits}
use Rattle.asn1_schema.specs.declared.misfit.MisfitKind.TheVariants.{NoEncoding}
use Rattle.asn1_schema.specs.Pieces.{Integer}
use Rattle.asn1_x690.specs.Leaves.{IsBetween, IsInteger, leaf_of}
use Rattle.asn1_x691_writers.specs.Put.{piece_in}
use Rattle.asn1_x690_writers.specs.Put.{IsFarWithout, LeftAt}
use Rattle.asn1_x690_writers.specs.PutSteps.{leaf_none, rejected}
use Rattle.asn1_x690_writers.specs.FarSteps.{put_permitted, far_above_most, far_below_least}
use Rattle.asn1_x690_writers.proofs.integers.put_integer_between.Goals as goal

pub put_far-requires-clause-far : goal.put_far-requires-clause-far
put_far-requires-clause-far c ranges = let h = c.in-FarAbove.ensures ranges in (pos h.0, h.1, h.2)

pub put_far-requires-then-is_extensible-2-clause-far : goal.put_far-requires-then-is_extensible-2-clause-far
put_far-requires-then-is_extensible-2-clause-far c ranges = let h = c.in-FarBelow.ensures ranges in (negsuc h.0, h.1, h.2)

pub returns-then-is_extensible : goal.returns-then-is_extensible
returns-then-is_extensible c ranges =
    let a = c.args in
    let k = c.put_far in
    let p = piece_in ranges a.source.now a.part in
    let L = LeftAt (IsFarWithout a.source.now a.part p) a.node k.new.state in
    put_permitted (IsBetween a.is_extensible a.bounds.least a.bounds.range) L a.node p
    (λ z e. subst (λ (b : Bool). IsBetween b a.bounds.least a.bounds.range z) (sym c.if-is_extensible.true) tt) a.octets.now a.state.now k.new.octets
    k.new.state k.result (k.ensures ranges)

pub returns-then-is_extensible-2 : goal.returns-then-is_extensible-2
returns-then-is_extensible-2 c ranges =
    let a = c.args in
    let k = c.put_far-then-is_extensible-2 in
    let p = piece_in ranges a.source.now a.part in
    let L = LeftAt (IsFarWithout a.source.now a.part p) a.node k.new.state in
    put_permitted (IsBetween a.is_extensible a.bounds.least a.bounds.range) L a.node p
    (λ z e. subst (λ (b : Bool). IsBetween b a.bounds.least a.bounds.range z) (sym c.if-is_extensible-2.true) tt) a.octets.now a.state.now k.new.octets
    k.new.state k.result (k.ensures ranges)

pub returns-else-is_extensible : goal.returns-else-is_extensible
returns-else-is_extensible c ranges =
    let a = c.args in
    let k = c.reject-in-FarAbove in
    let p = piece_in ranges a.source.now a.part in
    let h = c.in-FarAbove.ensures ranges in
    let Yes : ℤ → Type 0 = IsBetween a.is_extensible a.bounds.least a.bounds.range in
    rejected (LeftAt (IsFarWithout a.source.now a.part p) a.node k.new.state) (leaf_of IsInteger Yes Integer a.node) p a.octets.now a.state.now
    k.new.state k.result a.node NoEncoding k.ensures.result k.ensures.at k.ensures.next k.ensures.node k.ensures.reason
    (leaf_none IsInteger Yes Integer a.node p (pos h.0) h.1
    (λ l i y. far_above_most _ h.0 a.bounds.fits h.2
    (subst (λ (b : Bool). IsBetween b a.bounds.least a.bounds.range (pos h.0)) c.if-is_extensible.false y).1))

pub returns-else-is_extensible-2 : goal.returns-else-is_extensible-2
returns-else-is_extensible-2 c ranges =
    let a = c.args in
    let k = c.reject-in-FarBelow in
    let p = piece_in ranges a.source.now a.part in
    let h = c.in-FarBelow.ensures ranges in
    let fits : SFits w128 a.bounds.least = search rules in
    let Yes : ℤ → Type 0 = IsBetween a.is_extensible a.bounds.least a.bounds.range in
    rejected (LeftAt (IsFarWithout a.source.now a.part p) a.node k.new.state) (leaf_of IsInteger Yes Integer a.node) p a.octets.now a.state.now
    k.new.state k.result a.node NoEncoding k.ensures.result k.ensures.at k.ensures.next k.ensures.node k.ensures.reason
    (leaf_none IsInteger Yes Integer a.node p (negsuc h.0) h.1
    (λ l i y. far_below_least a.bounds.least h.0 fits h.2
    (subst (λ (b : Bool). IsBetween b a.bounds.least a.bounds.range (negsuc h.0)) c.if-is_extensible-2.false y).0))

use Rattle.std.proofs.Common.{pos, Bool, true, false, sym, ap, ◌∙◌, subst, rules, SFits}
use Rattle.std.specs.Int.{w128}
use Rattle.std.proofs.lemmas.Int.{to_z-of_z}
use Rattle.asn1_schema.specs.Pieces.{Piece, Integer}
use Rattle.asn1_x691.specs.Leaves.{integer_at_least_by}
use Rattle.asn1_x691_writers.specs.Put.{IsPut, piece_in}
use Rattle.asn1_x691_writers.proofs.integers.put_integer_at_least.Goals as goal

pub returns-then-is_extensible : goal.returns-then-is_extensible
returns-then-is_extensible c ranges =
    let T = λ (b : Bool). integer_at_least_by c.args.is_aligned c.args.node b c.args.bound.least in
    let fits : SFits w128 c.in-Number.z = search rules in
    let e = ap Integer (to_z-of_z w128 c.in-Number.z fits) ∙ sym (c.in-Number.ensures ranges) in
    subst
    (λ (b : Bool). IsPut c.args.is_aligned (T b) (piece_in ranges c.args.source.now c.args.part) c.args.octets.now c.args.state.now
    c.put_at_least_by_bit.new.octets c.put_at_least_by_bit.new.state c.put_at_least_by_bit.result) (sym c.if-is_extensible.true)
    (subst
    (λ (p : Piece). IsPut c.args.is_aligned (T true) p c.args.octets.now c.args.state.now c.put_at_least_by_bit.new.octets c.put_at_least_by_bit.new.state
    c.put_at_least_by_bit.result) e c.put_at_least_by_bit.ensures)

pub returns-else-is_extensible : goal.returns-else-is_extensible
returns-else-is_extensible c ranges =
    let T = λ (b : Bool). integer_at_least_by c.args.is_aligned c.args.node b c.args.bound.least in
    let fits : SFits w128 c.in-Number.z = search rules in
    let e = ap Integer (to_z-of_z w128 c.in-Number.z fits) ∙ sym (c.in-Number.ensures ranges) in
    subst
    (λ (b : Bool). IsPut c.args.is_aligned (T b) (piece_in ranges c.args.source.now c.args.part) c.args.octets.now c.args.state.now
    c.put_at_least.new.octets c.put_at_least.new.state c.put_at_least.result) (sym c.if-is_extensible.false)
    (subst
    (λ (p : Piece). IsPut c.args.is_aligned (T false) p c.args.octets.now c.args.state.now c.put_at_least.new.octets c.put_at_least.new.state
    c.put_at_least.result) e c.put_at_least.ensures)

pub returns-else-is_extensible-2 : goal.returns-else-is_extensible-2
returns-else-is_extensible-2 c ranges =
    let T = λ (b : Bool). integer_at_least_by c.args.is_aligned c.args.node b c.args.bound.least in
    let fits : SFits w128 c.args.bound.least = search rules in
    subst
    (λ (b : Bool). IsPut c.args.is_aligned (T b) (piece_in ranges c.args.source.now c.args.part) c.args.octets.now c.args.state.now
    c.put_far_above.new.octets c.put_far_above.new.state c.put_far_above.result) (sym c.if-is_extensible-2.false)
    (c.put_far_above.ensures ranges)

pub put_far_above-requires-clause-far : goal.put_far_above-requires-clause-far
put_far_above-requires-clause-far c ranges = let h = c.in-FarAbove.ensures ranges in (pos h.0, h.1, h.2)

pub returns-then-is_extensible-2 : goal.returns-then-is_extensible-2
returns-then-is_extensible-2 c ranges = let h = c.in-FarAbove.ensures ranges in search rules

pub returns-then-is_extensible-3 : goal.returns-then-is_extensible-3
returns-then-is_extensible-3 c ranges = let h = c.in-FarBelow.ensures ranges in search rules

pub returns-else-is_extensible-3 : goal.returns-else-is_extensible-3
returns-else-is_extensible-3 c ranges = let h = c.in-FarBelow.ensures ranges in search rules

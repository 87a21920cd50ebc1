use Rattle.std.proofs.Common.{pos, Bool, true, false, sym, ap, ◌∙◌, subst, rules, SFits}
use Rattle.std.specs.Int.{w128}
use Rattle.std.proofs.lemmas.Int.{to_z-of_z}
use Rattle.asn1_schema.specs.declared.misfit.MisfitKind.TheVariants.{NoEncoding}
use Rattle.asn1_schema.specs.Pieces.{Piece, Integer}
use Rattle.asn1_x691.specs.Leaves.{integer_between, integer_between_by}
use Rattle.asn1_x691_writers.specs.Put.{IsPut, piece_in}
use Rattle.asn1_x691_writers.specs.IntegerSteps.{above_range, far_above}
use Rattle.asn1_x691_writers.specs.PutSteps.{rejected}
use Rattle.asn1_x691_writers.proofs.integers.put_integer_between.Goals as goal

pub returns-then-is_extensible : goal.returns-then-is_extensible
returns-then-is_extensible c ranges =
    let T = λ (b : Bool). integer_between_by c.args.is_aligned c.args.node b c.args.bounds.least c.args.bounds.range in
    let fits : SFits w128 c.in-Number.z = search rules in
    let e = ap Integer (to_z-of_z w128 c.in-Number.z fits) ∙ sym (c.in-Number.ensures ranges) in
    subst
    (λ (b : Bool). IsPut c.args.is_aligned (T b) (piece_in ranges c.args.source.now c.args.part) c.args.octets.now c.args.state.now
    c.put_between_by_bit.new.octets c.put_between_by_bit.new.state c.put_between_by_bit.result) (sym c.if-is_extensible.true)
    (subst
    (λ (p : Piece). IsPut c.args.is_aligned (T true) p c.args.octets.now c.args.state.now c.put_between_by_bit.new.octets c.put_between_by_bit.new.state
    c.put_between_by_bit.result) e c.put_between_by_bit.ensures)

pub returns-else-is_extensible-2 : goal.returns-else-is_extensible-2
returns-else-is_extensible-2 c ranges =
    let aligned = c.args.is_aligned in
    let node = c.args.node in
    let least = c.args.bounds.least in
    let range = c.args.bounds.range in
    let far = c.in-FarAbove.ensures ranges in
    let u = far.0 in
    let d = far_above least range u c.args.bounds.fits far.2 in
    let T = λ (b : Bool). integer_between_by aligned node b least range in
    subst
    (λ (b : Bool). IsPut aligned (T b) (piece_in ranges c.args.source.now c.args.part) c.args.octets.now c.args.state.now c.args.octets.now
    c.reject.new.state c.reject.result) (sym c.if-is_extensible-2.false)
    (subst
    (λ (p : Piece). IsPut aligned (T false) p c.args.octets.now c.args.state.now c.args.octets.now c.reject.new.state c.reject.result)
    (sym far.1)
    (rejected aligned (integer_between aligned node least range) (Integer (pos u)) c.args.octets.now c.args.state.now c.reject.new.state
    c.reject.result node NoEncoding c.reject.ensures.result c.reject.ensures.at c.reject.ensures.next c.reject.ensures.node
    c.reject.ensures.reason (above_range aligned node least range d.0 (pos u) d.1 d.2)))

pub returns-then-is_extensible-2 : goal.returns-then-is_extensible-2
returns-then-is_extensible-2 c ranges = let h = c.in-FarAbove.ensures ranges in search rules

pub returns-then-is_extensible-3 : goal.returns-then-is_extensible-3
returns-then-is_extensible-3 c ranges = let h = c.in-FarBelow.ensures ranges in search rules

pub returns-else-is_extensible-3 : goal.returns-else-is_extensible-3
returns-else-is_extensible-3 c ranges = let h = c.in-FarBelow.ensures ranges in search rules

use Rattle.std.proofs.Common.{◌≡◌, ℤ, pos, refl, sym, ap, ◌∙◌, rules, SFits}
use Rattle.std.specs.Int.{w128}
use Rattle.std.specs.Prelude.{◌+ℤ◌}
use Rattle.std.proofs.lemmas.Int.{to_z-of_z}
use Rattle.asn1_schema.specs.declared.misfit.MisfitKind.TheVariants.{NoEncoding}
use Rattle.asn1_schema.specs.Pieces.{Integer}
use Rattle.asn1_x691.specs.Leaves.{integer_between}
use Rattle.asn1_x691_writers.specs.IntegerSteps.{above_range, between_written}
use Rattle.asn1_x691_writers.specs.PutSteps.{rejected}
use Rattle.asn1_x691_writers.proofs.integers.put_between.Goals as goal

pub returns-then-distance-bounds : goal.returns-then-distance-bounds
returns-then-distance-bounds c =
    let least = c.args.bounds.least in
    let range = c.args.bounds.range in
    let d = c.distance_above-distance.result in
    let fits : SFits w128 c.args.bounds.least = search rules in
    let e : c.args.z ≡ (least +ℤ pos d) =
    sym (to_z-of_z w128 c.args.z c.ranges.z) ∙ c.distance_above-distance.ensures
    ∙ ap (λ (l : ℤ). l +ℤ pos d) (to_z-of_z w128 c.args.bounds.least fits) in
    rejected c.args.is_aligned (integer_between c.args.is_aligned c.args.node least range) (Integer c.args.z) c.args.octets.now
    c.args.state.now c.reject-then-distance-bounds.new.state c.reject-then-distance-bounds.result c.args.node NoEncoding
    c.reject-then-distance-bounds.ensures.result c.reject-then-distance-bounds.ensures.at c.reject-then-distance-bounds.ensures.next
    c.reject-then-distance-bounds.ensures.node c.reject-then-distance-bounds.ensures.reason
    (above_range c.args.is_aligned c.args.node least range d c.args.z e c.if-distance-bounds.true)

pub returns : goal.returns
returns c =
    let least = c.args.bounds.least in
    let range = c.args.bounds.range in
    let d = c.distance_above-distance.result in
    let fits : SFits w128 c.args.bounds.least = search rules in
    let e : c.args.z ≡ (least +ℤ pos d) =
    sym (to_z-of_z w128 c.args.z c.ranges.z) ∙ c.distance_above-distance.ensures
    ∙ ap (λ (l : ℤ). l +ℤ pos d) (to_z-of_z w128 c.args.bounds.least fits) in
    record {
      written = between_written c.args.is_aligned c.args.node least range d c.args.z c.args.octets.now c.put_constrained-state.new.octets
          c.args.state.now.at c.put_constrained-state.result e (c.put_constrained-state.ensures c.args.node);
      next = refl;
    }

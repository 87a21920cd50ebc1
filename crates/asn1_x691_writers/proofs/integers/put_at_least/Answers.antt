use Rattle.std.proofs.Common.{◌≡◌, ℤ, pos, refl, sym, ap, ◌∙◌, rules, SFits}
use Rattle.std.specs.Int.{w128}
use Rattle.std.specs.Prelude.{◌+ℤ◌}
use Rattle.std.proofs.lemmas.Int.{to_z-of_z}
use Rattle.asn1_x691_writers.specs.IntegerSteps.{at_least_written}
use Rattle.asn1_x691_writers.proofs.integers.put_at_least.Goals as goal

pub returns : goal.returns
returns c =
    let least = c.args.bound.least in
    let d = c.distance_above.result in
    let fits : SFits w128 c.args.bound.least = search rules in
    let e : c.args.z ≡ (least +ℤ pos d) =
    sym (to_z-of_z w128 c.args.z c.ranges.z) ∙ c.distance_above.ensures ∙ ap (λ (l : ℤ). l +ℤ pos d) (to_z-of_z w128 c.args.bound.least fits) in
    record {
      written = at_least_written c.args.is_aligned c.args.node least d c.args.z c.args.octets.now c.put_semi_constrained-state.new.octets
          c.args.state.now.at c.put_semi_constrained-state.result e (c.put_semi_constrained-state.ensures c.args.node);
      next = refl;
    }

use Rattle.std.proofs.Common.{◌≡◌, ℤ, pos, refl, sym, ap, ◌∙◌, subst, rules, SFits}
use Rattle.std.specs.Int.{w128}
use Rattle.std.specs.Prelude.{◌+ℤ◌, ◌<ℤ◌, ◌≤ℤ◌}
use Rattle.std.proofs.lemmas.Int.{to_z-of_z}
use Rattle.asn1_x691.specs.Fields.{unconstrained}
use Rattle.asn1_x691.specs.Leaves.{integer_at_least}
use Rattle.asn1_x691_writers.specs.Written.{IsWritten}
use Rattle.asn1_x691_writers.specs.IntegerSteps.{at_least_written, root_written, added_written}
use Rattle.asn1_x691_writers.proofs.integers.put_at_least_by_bit.Goals as goal

pub returns-then-z-bound : goal.returns-then-z-bound
returns-then-z-bound c =
    let aligned = c.args.is_aligned in
    let node = c.args.node in
    let least = c.args.bound.least in
    let was = c.args.octets.now in
    let mid = c.put_bit-added.new.octets in
    let now = c.put_unconstrained-state.new.octets in
    let at = c.put_bit-added.result in
    let new = c.put_unconstrained-state.result in
    let below : c.args.z <ℤ c.args.bound.least = search rules in
    record {
      written = added_written aligned node (λ n. least ≤ℤ n) (λ n. n <ℤ least) (integer_at_least aligned node least) c.args.z was mid now
          c.args.state.now.at at new (c.put_bit-added.ensures aligned node) below
          (subst (λ (x : ℤ). IsWritten aligned (unconstrained aligned node) x mid at now new)
          (to_z-of_z w128 c.args.z c.ranges.z) (c.put_unconstrained-state.ensures node));
      next = refl;
    }

pub returns : goal.returns
returns c =
    let aligned = c.args.is_aligned in
    let node = c.args.node in
    let least = c.args.bound.least in
    let d = c.distance_above.result in
    let was = c.args.octets.now in
    let mid = c.put_bit-root.new.octets in
    let now = c.put_semi_constrained-state.new.octets in
    let at = c.put_bit-root.result in
    let new = c.put_semi_constrained-state.result in
    let fits : SFits w128 c.args.bound.least = search rules in
    let e : c.args.z ≡ (least +ℤ pos d) =
    sym (to_z-of_z w128 c.args.z c.ranges.z) ∙ c.distance_above.ensures ∙ ap (λ (l : ℤ). l +ℤ pos d) (to_z-of_z w128 c.args.bound.least fits) in
    record {
      written = root_written aligned node (λ n. least ≤ℤ n) (λ n. n <ℤ least) (integer_at_least aligned node least) c.args.z was mid now
          c.args.state.now.at at new (c.put_bit-root.ensures aligned node)
          (at_least_written aligned node least d c.args.z mid now at new e (c.put_semi_constrained-state.ensures node));
      next = refl;
    }

use Rattle.std.proofs.Common.{◌≡◌, ℤ, pos, refl, sym, ap, ◌∙◌, subst, inl, rules, SFits}
use Rattle.std.specs.Int.{w128}
use Rattle.std.specs.Prelude.{◌+ℤ◌, ◌<ℤ◌}
use Rattle.std.proofs.lemmas.Int.{to_z-of_z}
use Rattle.asn1_x691.specs.Fields.{unconstrained}
use Rattle.asn1_x691.specs.Leaves.{IsBetween, IsOutside, integer_between}
use Rattle.asn1_x691_writers.specs.Written.{IsWritten}
use Rattle.asn1_x691_writers.specs.IntegerSteps.{between_written, root_written, added_written, outside_above}
use Rattle.asn1_x691_writers.proofs.integers.put_between_by_bit.Goals as goal

pub returns-then-z-bounds : goal.returns-then-z-bounds
returns-then-z-bounds c =
    let aligned = c.args.is_aligned in
    let node = c.args.node in
    let least = c.args.bounds.least in
    let range = c.args.bounds.range in
    let was = c.args.octets.now in
    let mid = c.put_bit-added.new.octets in
    let now = c.put_unconstrained-state.new.octets in
    let at = c.put_bit-added.result in
    let new = c.put_unconstrained-state.result in
    let below : c.args.z <ℤ c.args.bounds.least = search rules in
    record {
      written = added_written aligned node (IsBetween least range) (IsOutside least range) (integer_between aligned node least range) c.args.z
          was mid now c.args.state.now.at at new (c.put_bit-added.ensures aligned node) (inl below)
          (subst (λ (x : ℤ). IsWritten aligned (unconstrained aligned node) x mid at now new)
          (to_z-of_z w128 c.args.z c.ranges.z) (c.put_unconstrained-state.ensures node));
      next = refl;
    }

pub returns-then-distance-bounds : goal.returns-then-distance-bounds
returns-then-distance-bounds c =
    let aligned = c.args.is_aligned in
    let node = c.args.node in
    let least = c.args.bounds.least in
    let range = c.args.bounds.range in
    let d = c.distance_above-distance.result in
    let was = c.args.octets.now in
    let mid = c.put_bit-added-then-distance-bounds.new.octets in
    let now = c.put_unconstrained-state-then-distance-bounds.new.octets in
    let at = c.put_bit-added-then-distance-bounds.result in
    let new = c.put_unconstrained-state-then-distance-bounds.result in
    let fits : SFits w128 c.args.bounds.least = search rules in
    let e : c.args.z ≡ (least +ℤ pos d) =
    sym (to_z-of_z w128 c.args.z c.ranges.z) ∙ c.distance_above-distance.ensures
    ∙ ap (λ (l : ℤ). l +ℤ pos d) (to_z-of_z w128 c.args.bounds.least fits) in
    record {
      written = added_written aligned node (IsBetween least range) (IsOutside least range) (integer_between aligned node least range) c.args.z
          was mid now c.args.state.now.at at new (c.put_bit-added-then-distance-bounds.ensures aligned node)
          (outside_above least c.args.z range d e c.if-distance-bounds.true)
          (subst (λ (x : ℤ). IsWritten aligned (unconstrained aligned node) x mid at now new)
          (to_z-of_z w128 c.args.z c.ranges.z) (c.put_unconstrained-state-then-distance-bounds.ensures node));
      next = refl;
    }

pub returns : goal.returns
returns c =
    let aligned = c.args.is_aligned in
    let node = c.args.node in
    let least = c.args.bounds.least in
    let range = c.args.bounds.range in
    let d = c.distance_above-distance.result in
    let was = c.args.octets.now in
    let mid = c.put_bit-root.new.octets in
    let now = c.put_constrained-state.new.octets in
    let at = c.put_bit-root.result in
    let new = c.put_constrained-state.result in
    let fits : SFits w128 c.args.bounds.least = search rules in
    let e : c.args.z ≡ (least +ℤ pos d) =
    sym (to_z-of_z w128 c.args.z c.ranges.z) ∙ c.distance_above-distance.ensures
    ∙ ap (λ (l : ℤ). l +ℤ pos d) (to_z-of_z w128 c.args.bounds.least fits) in
    record {
      written = root_written aligned node (IsBetween least range) (IsOutside least range) (integer_between aligned node least range) c.args.z
          was mid now c.args.state.now.at at new (c.put_bit-root.ensures aligned node)
          (between_written aligned node least range d c.args.z mid now at new e (c.put_constrained-state.ensures node));
      next = refl;
    }

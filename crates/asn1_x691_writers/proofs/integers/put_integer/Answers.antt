use Rattle.std.proofs.Common.{ℤ, pos, negsuc, refl, subst, rules, SFits}
use Rattle.std.specs.Int.{w128}
use Rattle.std.proofs.lemmas.Int.{to_z-of_z}
use Rattle.asn1_schema.specs.Pieces.{Integer}
use Rattle.asn1_x691.specs.Fields.{unconstrained}
use Rattle.asn1_x691_writers.specs.Put.{piece_in}
use Rattle.asn1_x691_writers.specs.Written.{IsWritten}
use Rattle.asn1_x691_writers.specs.LeafSteps.{leaf_written}
use Rattle.asn1_x691_writers.proofs.integers.put_integer.Goals as goal

pub returns-in-Number : goal.returns-in-Number
returns-in-Number c ranges =
    let aligned = c.args.is_aligned in
    let node = c.args.node in
    let z = c.in-Number.z in
    let was = c.args.octets.now in
    let now = c.put_unconstrained-state.new.octets in
    let new = c.put_unconstrained-state.result in
    let fits : SFits w128 c.in-Number.z = search rules in
    record {
      written = leaf_written (unconstrained aligned node) Integer node aligned z (piece_in ranges c.args.source.now c.args.part) was now
          c.args.state.now.at new (c.in-Number.ensures ranges)
          (subst (λ (x : ℤ). IsWritten aligned (unconstrained aligned node) x was c.args.state.now.at now new)
          (to_z-of_z w128 c.in-Number.z fits) (c.put_unconstrained-state.ensures node));
      next = refl;
    }

pub put_far-requires-clause-far : goal.put_far-requires-clause-far
put_far-requires-clause-far c ranges = let h = c.in-FarAbove.ensures ranges in (pos h.0, h.1, h.2)

pub put_far-requires-in-FarBelow-clause-far : goal.put_far-requires-in-FarBelow-clause-far
put_far-requires-in-FarBelow-clause-far c ranges = let h = c.in-FarBelow.ensures ranges in (negsuc h.0, h.1, h.2)

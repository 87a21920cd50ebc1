use Rattle.std.proofs.Common.{refl}
use Rattle.asn1_bits.specs.Bits.{bits}
use Rattle.asn1_schema.specs.declared.misfit.MisfitKind.TheVariants.{NoEncoding}
use Rattle.asn1_schema.specs.Pieces.{Integer}
use Rattle.asn1_schema.specs.PiecesOfParts.{bits_of, signed_number}
use Rattle.asn1_x691.specs.Fields.{unconstrained}
use Rattle.asn1_x691.specs.Leaves.{integer}
use Rattle.asn1_x691_writers.specs.FarSteps.{none_unconstrained}
use Rattle.asn1_x691_writers.specs.LeafSteps.{leaf_written, leaf_none}
use Rattle.asn1_x691_writers.specs.PutSteps.{rejected}
use Rattle.asn1_x691_writers.proofs.integers.put_far_span.Goals as goal

pub returns-then-span-gt131064 : goal.returns-then-span-gt131064
returns-then-span-gt131064 c =
    let aligned = c.args.is_aligned in
    let node = c.args.node in
    let z = signed_number (bits_of (bits c.args.source.now) c.args.span) in
    rejected aligned (integer aligned node) (Integer z) c.args.octets.now c.args.state.now c.reject.new.state c.reject.result node NoEncoding
    c.reject.ensures.result c.reject.ensures.at c.reject.ensures.next c.reject.ensures.node c.reject.ensures.reason
    (leaf_none (unconstrained aligned node) Integer node (Integer z) z refl
    (λ at p. none_unconstrained aligned node at c.args.span.count z c.if-span-gt131064.true c.requires.first p))

pub returns : goal.returns
returns c =
    let aligned = c.args.is_aligned in
    let node = c.args.node in
    let z = signed_number (bits_of (bits c.args.source.now) c.args.span) in
    record {
      written = leaf_written (unconstrained aligned node) Integer node aligned z (Integer z) c.args.octets.now
          c.put_unconstrained_span-state.new.octets c.args.state.now.at c.put_unconstrained_span-state.result refl
          (c.put_unconstrained_span-state.ensures node);
      next = refl;
    }

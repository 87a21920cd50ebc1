use Rattle.std.proofs.Common.{pos, refl}
use Rattle.std.specs.Prelude.{◌+ℤ◌}
use Rattle.asn1_bits.specs.Bits.{bits, number}
use Rattle.asn1_schema.specs.declared.misfit.MisfitKind.TheVariants.{NoEncoding}
use Rattle.asn1_schema.specs.Pieces.{Integer}
use Rattle.asn1_schema.specs.PiecesOfParts.{bits_of}
use Rattle.asn1_x691.specs.Fields.{semi_constrained}
use Rattle.asn1_x691.specs.Leaves.{from_least, integer_at_least}
use Rattle.asn1_x691_writers.specs.FarSteps.{none_semi_constrained}
use Rattle.asn1_x691_writers.specs.LeafSteps.{leaf_written, leaf_none}
use Rattle.asn1_x691_writers.specs.PutSteps.{rejected}
use Rattle.asn1_x691_writers.proofs.integers.put_above_span.Goals as goal

pub returns-then-span-gt131064 : goal.returns-then-span-gt131064
returns-then-span-gt131064 c =
    let aligned = c.args.is_aligned in
    let node = c.args.node in
    let least = c.args.least in
    let d = number (bits_of (bits c.args.source.now) c.args.span) in
    rejected aligned (integer_at_least aligned node least) (Integer (least +ℤ pos d)) c.args.octets.now c.args.state.now c.reject.new.state
    c.reject.result node NoEncoding
    c.reject.ensures.result c.reject.ensures.at c.reject.ensures.next c.reject.ensures.node c.reject.ensures.reason
    (leaf_none (semi_constrained aligned node) (from_least least) node (Integer (least +ℤ pos d)) d refl
    (λ at p. none_semi_constrained aligned node at c.args.span.count d c.if-span-gt131064.true c.requires.first p))

pub returns : goal.returns
returns c =
    let aligned = c.args.is_aligned in
    let node = c.args.node in
    let least = c.args.least in
    let d = number (bits_of (bits c.args.source.now) c.args.span) in
    record {
      written = leaf_written (semi_constrained aligned node) (from_least least) node aligned d (Integer (least +ℤ pos d)) c.args.octets.now
          c.put_semi_constrained_span-state.new.octets c.args.state.now.at c.put_semi_constrained_span-state.result refl
          (c.put_semi_constrained_span-state.ensures node);
      next = refl;
    }

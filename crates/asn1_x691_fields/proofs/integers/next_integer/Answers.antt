use Rattle.std.proofs.Common.{refl}
use Rattle.asn1_bits.specs.Bits.{bits}
use Rattle.asn1_schema.specs.Pieces.{Integer}
use Rattle.asn1_schema.specs.PiecesOfParts.{bits_of, signed_number}
use Rattle.asn1_x691.specs.Fields.{unconstrained}
use Rattle.asn1_x691_fields.specs.Outcomes.{rest, position}
use Rattle.asn1_x691_fields.specs.LeafSteps.{leaf_starts}
use Rattle.asn1_x691_fields.proofs.integers.next_integer.Goals as goal

pub returns-clause-read : goal.returns-clause-read
returns-clause-read c ranges =
    let list = bits c.args.octets.now in
    let z = signed_number (bits_of list c.in_ok-span.span) in
    leaf_starts (unconstrained c.args.is_aligned c.args.node) Integer c.args.node (position c.args.state.now)
    (rest list c.args.state.now) (rest list c.next_unconstrained.new.state) z (Integer z) refl c.in_ok-span.ensures.read

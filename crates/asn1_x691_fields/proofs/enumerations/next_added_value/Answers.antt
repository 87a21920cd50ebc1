use Rattle.asn1_bits.specs.Bits.{bits}
use Rattle.asn1_schema.specs.PiecesOfParts.{piece_of, natural_of}
use Rattle.asn1_x691.specs.Fields.{small_number}
use Rattle.asn1_x691.specs.Leaves.{value_of_addition as piece_of_addition}
use Rattle.asn1_x691_fields.specs.Outcomes.{rest, position}
use Rattle.asn1_x691_fields.specs.LeafSteps.{leaf_starts}
use Rattle.asn1_x691_fields.proofs.enumerations.next_added_value.Goals as goal

pub returns-clause-read : goal.returns-clause-read
returns-clause-read c ranges =
    let list = bits c.args.octets.now in
    leaf_starts (small_number c.args.is_aligned c.args.node) (piece_of_addition c.args.last c.args.additions) c.args.node
    (position c.args.state.now) (rest list c.args.state.now) (rest list c.next_small_number.new.state) (natural_of list c.in_ok-index.index)
    (piece_of ranges list c.value_of_addition.result)
    (c.value_of_addition.ensures ranges list c.next_small_number.new.state c.in_ok-index.ensures.natural) c.in_ok-index.ensures.read

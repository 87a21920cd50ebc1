use Rattle.asn1_bits.specs.Bits.{bits}
use Rattle.asn1_x691.specs.Fragments.{units_octets}
use Rattle.asn1_x691_fields.specs.NumberSteps.{octet_read}
use Rattle.asn1_x691_fields.proofs.fragments.next_number_of_units.Goals as goal

pub returns-clause-read : goal.returns-clause-read
returns-clause-read c =
    octet_read (bits c.args.octets.now) c.args.state.now c.next_start.new.state c.next_number_octets.new.state (λ n. n) c.args.is_aligned
    c.args.node (units_octets c.args.node) c.next_number_octets.result c.in_ok-next_start.ensures.read c.next_number_octets.ensures.read

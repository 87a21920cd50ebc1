use Rattle.asn1_bits.specs.Bits.{bits}
use Rattle.asn1_x691.specs.Fragments.{units_octets}
use Rattle.asn1_x691_fields.specs.StringSteps.{counted_after_start}
use Rattle.asn1_x691_fields.proofs.strings.next_count.Goals as goal

pub returns-clause-read : goal.returns-clause-read
returns-clause-read c =
    counted_after_start (units_octets c.args.node) c.args.node c.args.is_aligned (bits c.args.octets.now) c.args.state.now
    c.next_start.new.state c.next_count_octets.new.state (λ n. n) c.next_count_octets.result c.in_ok-next_start.ensures.read
    c.next_count_octets.ensures.read

use Rattle.std.proofs.Common.{true}
use Rattle.asn1_bits.specs.Bits.{bits}
use Rattle.asn1_x691.specs.Fields.{minimal_up_to}
use Rattle.asn1_x691_fields.specs.NumberSteps.{octet_read}
use Rattle.asn1_x691_fields.proofs.numbers.next_counted.Goals as goal

pub returns-clause-read : goal.returns-clause-read
returns-clause-read c =
    octet_read (bits c.args.octets.now) c.args.state.now c.next_start.new.state c.next_minimal_up_to.new.state (λ n. n) true
    c.args.node (minimal_up_to c.args.count c.args.most c.args.node) c.next_minimal_up_to.result c.in_ok-next_start.ensures.read
    c.next_minimal_up_to.ensures.read

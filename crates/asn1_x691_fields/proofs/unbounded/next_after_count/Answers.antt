use Rattle.std.proofs.Common.{◌≡◌, ◌<◌, arith}
use Rattle.asn1_bits.specs.Bits.{bits, number}
use Rattle.asn1_schema.specs.PiecesOfParts.{bits_of}
use Rattle.asn1_schema.specs.Encodings.{anywhere, invalid}
use Rattle.asn1_x691.specs.declared.fault.FaultKind.TheVariants.{NotMinimal}
use Rattle.asn1_x691.specs.Fields.{on_octet, minimal_octets}
use Rattle.asn1_x691_fields.specs.NumberSteps.{octet_read, first_read}
use Rattle.asn1_x691_fields.proofs.unbounded.next_after_count.Goals as goal

pub returns-clause-read : goal.returns-clause-read
returns-clause-read c =
    let list = bits c.args.octets.now in
    let node = c.args.node in
    let count = c.args.count in
    first_read list c.args.state.now c.next_minimal_octets.new.state (λ s. number (bits_of list s)) (0 < count) (count ≡ 0)
    (on_octet c.args.is_aligned node (minimal_octets count node)) (anywhere (invalid NotMinimal node)) c.next_minimal_octets.result
    (omega (arith, c.if-count-eq0.false))
    (octet_read list c.args.state.now c.next_start.new.state c.next_minimal_octets.new.state (λ s. number (bits_of list s)) c.args.is_aligned
    node (minimal_octets count node) c.next_minimal_octets.result c.in_ok-next_start.ensures.read c.next_minimal_octets.ensures.read)

use Rattle.std.proofs.Common.{◌≡◌, ◌≢◌, ◌<◌, ◌≤◌, true}
use Rattle.asn1_bits.specs.Bits.{bits}
use Rattle.asn1_schema.specs.Encodings.{in_case}
use Rattle.asn1_x691.specs.Fields.{on_octet, in_bits, indefinite}
use Rattle.asn1_x691_fields.specs.NumberSteps.{octet_read, first_read, second_read}
use Rattle.asn1_x691_fields.proofs.numbers.next_on_octet.Goals as goal

pub returns-then-range-eq255-clause-read : goal.returns-then-range-eq255-clause-read
returns-then-range-eq255-clause-read c =
    let range = c.args.range in
    let node = c.args.node in
    let list = bits c.args.octets.now in
    first_read list c.args.state.now c.next_in_bits.new.state (λ n. n) (range ≡ 255) (range ≢ 255)
    (on_octet true node (in_bits 8 range node))
    (in_case (range < 65536) (on_octet true node (in_bits 16 range node)) (65536 ≤ range) (indefinite range node))
    c.next_in_bits.result c.if-range-eq255.true
    (octet_read list c.args.state.now c.next_start.new.state c.next_in_bits.new.state (λ n. n) true
    node (in_bits 8 range node) c.next_in_bits.result c.in_ok-next_start.ensures.read c.next_in_bits.ensures.read)

pub returns-clause-read : goal.returns-clause-read
returns-clause-read c =
    let range = c.args.range in
    let node = c.args.node in
    let list = bits c.args.octets.now in
    second_read list c.args.state.now c.next_in_bits-2.new.state (λ n. n) (range ≡ 255) (range ≢ 255)
    (on_octet true node (in_bits 8 range node))
    (in_case (range < 65536) (on_octet true node (in_bits 16 range node)) (65536 ≤ range) (indefinite range node))
    c.next_in_bits-2.result c.if-range-eq255.false
    (first_read list c.args.state.now c.next_in_bits-2.new.state (λ n. n) (range < 65536) (65536 ≤ range)
    (on_octet true node (in_bits 16 range node)) (indefinite range node) c.next_in_bits-2.result c.if-range-ge65536.false
    (octet_read list c.args.state.now c.next_start.new.state c.next_in_bits-2.new.state (λ n. n) true
    node (in_bits 16 range node) c.next_in_bits-2.result c.in_ok-next_start.ensures.read c.next_in_bits-2.ensures.read))

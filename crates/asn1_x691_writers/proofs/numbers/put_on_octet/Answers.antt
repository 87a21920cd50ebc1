use Rattle.std.proofs.Common.{◌≡◌, ◌≢◌, ◌<◌, ◌≤◌, true, arith}
use Rattle.asn1_schema.specs.Encodings.{in_case}
use Rattle.asn1_x691.specs.Fields.{on_octet, in_bits, indefinite}
use Rattle.asn1_x691_writers.specs.FieldSteps.{first_written, second_written, octet_written}
use Rattle.asn1_x691_writers.proofs.numbers.put_on_octet.Goals as goal

pub returns-then-range-ge65536 : goal.returns-then-range-ge65536
returns-then-range-ge65536 c node =
    let range = c.args.range in
    let n = c.args.n in
    let was = c.args.octets.now in
    let now = c.put_indefinite.new.octets in
    let large = in_case (range < 65536) (on_octet true node (in_bits 16 range node)) (65536 ≤ range) (indefinite range node) in
    second_written true (range ≡ 255) (range ≢ 255) (on_octet true node (in_bits 8 range node)) large n was now c.args.at
    c.put_indefinite.result (omega (arith, c.if-range-ge65536.true))
    (second_written true (range < 65536) (65536 ≤ range) (on_octet true node (in_bits 16 range node)) (indefinite range node) n was now
    c.args.at c.put_indefinite.result c.if-range-ge65536.true (c.put_indefinite.ensures node))

pub returns-then-range-eq255 : goal.returns-then-range-eq255
returns-then-range-eq255 c node =
    let range = c.args.range in
    let n = c.args.n in
    let was = c.args.octets.now in
    let mid = c.put_start-start.new.octets in
    let now = c.put_in_bits.new.octets in
    first_written true (range ≡ 255) (range ≢ 255) (on_octet true node (in_bits 8 range node))
    (in_case (range < 65536) (on_octet true node (in_bits 16 range node)) (65536 ≤ range) (indefinite range node)) n was now c.args.at
    c.put_in_bits.result c.if-range-eq255.true
    (octet_written node (in_bits 8 range node) n was mid now c.args.at c.put_start-start.result c.put_in_bits.result true
    c.put_start-start.ensures (c.put_in_bits.ensures true range node c.requires.most))

pub returns : goal.returns
returns c node =
    let range = c.args.range in
    let n = c.args.n in
    let was = c.args.octets.now in
    let mid = c.put_start-start.new.octets in
    let now = c.put_in_bits-2.new.octets in
    let new = c.put_in_bits-2.result in
    let large = in_case (range < 65536) (on_octet true node (in_bits 16 range node)) (65536 ≤ range) (indefinite range node) in
    second_written true (range ≡ 255) (range ≢ 255) (on_octet true node (in_bits 8 range node)) large n was now c.args.at new
    c.if-range-eq255.false
    (first_written true (range < 65536) (65536 ≤ range) (on_octet true node (in_bits 16 range node)) (indefinite range node) n was now
    c.args.at new c.if-range-ge65536.false
    (octet_written node (in_bits 16 range node) n was mid now c.args.at c.put_start-start.result new true
    c.put_start-start.ensures (c.put_in_bits-2.ensures true range node c.requires.most)))

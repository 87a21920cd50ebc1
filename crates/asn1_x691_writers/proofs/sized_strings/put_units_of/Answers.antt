use Rattle.std.proofs.Common.{◌*◌, arith}
use Rattle.asn1_bits.specs.Bits.{bits}
use Rattle.asn1_bits.specs.Laws.DigitLaws.{length-bits}
use Rattle.asn1_schema.specs.Encodings.{anywhere}
use Rattle.asn1_schema.specs.Fields.{raw_bits}
use Rattle.asn1_schema.specs.PiecesOfParts.{bits_at}
use Rattle.asn1_x691.specs.declared.fault.FaultKind.TheVariants.{Short}
use Rattle.asn1_x691.specs.Fields.{on_octet}
use Rattle.asn1_x691.specs.Strings.{IsInline, IsOnOctet}
use Rattle.asn1_x691_fields.specs.Steps.{front_length}
use Rattle.asn1_x691_writers.specs.FieldSteps.{first_written, second_written, octet_written}
use Rattle.asn1_x691_writers.specs.StringSteps.{raw_written}
use Rattle.asn1_x691_writers.proofs.sized_strings.put_units_of.Goals as goal

pub returns-then-is_inline : goal.returns-then-is_inline
returns-then-is_inline c node =
    let aligned = c.args.is_aligned in
    let unit = c.args.unit in
    let n = c.args.count in
    let source = bits c.args.source.now in
    let list = bits_at source c.args.from (unit * n) in
    let was = c.args.octets.now in
    let now = c.put_bits.new.octets in
    let new = c.put_bits.result in
    let size = front_length source c.args.from (unit * n) (omega (arith, c.requires.within, length-bits c.args.source.now)) in
    first_written aligned (IsInline unit c.args.least c.args.range n) (IsOnOctet unit c.args.least c.args.range n)
    (anywhere (raw_bits (unit * n) Short node)) (on_octet aligned node (raw_bits (unit * n) Short node)) list was now c.args.at new
    (c.is_inline.ensures.is c.if-is_inline.true)
    (raw_written aligned (unit * n) node list was now c.args.at new size c.put_bits.ensures)

pub returns : goal.returns
returns c node =
    let aligned = c.args.is_aligned in
    let unit = c.args.unit in
    let n = c.args.count in
    let source = bits c.args.source.now in
    let list = bits_at source c.args.from (unit * n) in
    let was = c.args.octets.now in
    let mid = c.put_start-start.new.octets in
    let now = c.put_bits-2.new.octets in
    let new = c.put_bits-2.result in
    let size = front_length source c.args.from (unit * n) (omega (arith, c.requires.within, length-bits c.args.source.now)) in
    second_written aligned (IsInline unit c.args.least c.args.range n) (IsOnOctet unit c.args.least c.args.range n)
    (anywhere (raw_bits (unit * n) Short node)) (on_octet aligned node (raw_bits (unit * n) Short node)) list was now c.args.at new
    (c.is_inline.ensures.not c.if-is_inline.false)
    (octet_written node (raw_bits (unit * n) Short node) list was mid now c.args.at c.put_start-start.result new aligned
    c.put_start-start.ensures (raw_written aligned (unit * n) node list mid now c.put_start-start.result new size c.put_bits-2.ensures))

use Rattle.std.proofs.Common.{◌*◌, arith}
use Rattle.asn1_bits.specs.Bits.{bits}
use Rattle.asn1_schema.specs.Encodings.{anywhere}
use Rattle.asn1_schema.specs.Fields.{raw_bits}
use Rattle.asn1_schema.specs.PiecesOfParts.{bits_at}
use Rattle.asn1_x691.specs.declared.fault.FaultKind.TheVariants.{Short}
use Rattle.asn1_x691.specs.Fields.{on_octet}
use Rattle.asn1_x691.specs.Strings.{IsInline, IsOnOctet}
use Rattle.asn1_x691_fields.specs.Steps.{front_length}
use Rattle.asn1_x691_writers.specs.Joined.{bits_in}
use Rattle.asn1_x691_writers.specs.FieldSteps.{first_written, second_written, octet_written}
use Rattle.asn1_x691_writers.specs.StringSteps.{raw_written}
use Rattle.asn1_x691_writers.proofs.joined_strings.put_joined_inline.Goals as goal

pub returns-then-is_inline : goal.returns-then-is_inline
returns-then-is_inline c node =
    let aligned = c.args.is_aligned in
    let n = c.args.count in
    let source = bits_in (bits c.args.source.now) c.args.joined.now in
    let list = bits_at source 0 (c.args.joined.now.unit * n) in
    let was = c.args.octets.now in
    let now = c.put_joined.new.octets in
    let new = c.put_joined.result in
    let size = front_length source 0 (c.args.joined.now.unit * n) (omega (arith, c.requires.all)) in
    first_written aligned (IsInline c.args.joined.now.unit c.args.least c.args.range n) (IsOnOctet c.args.joined.now.unit c.args.least c.args.range n)
    (anywhere (raw_bits (c.args.joined.now.unit * n) Short node)) (on_octet aligned node (raw_bits (c.args.joined.now.unit * n) Short node)) list was now c.args.at new
    (c.is_inline.ensures.is c.if-is_inline.true)
    (raw_written aligned (c.args.joined.now.unit * n) node list was now c.args.at new size c.put_joined.ensures)

pub returns : goal.returns
returns c node =
    let aligned = c.args.is_aligned in
    let n = c.args.count in
    let source = bits_in (bits c.args.source.now) c.args.joined.now in
    let list = bits_at source 0 (c.args.joined.now.unit * n) in
    let was = c.args.octets.now in
    let mid = c.put_start-start.new.octets in
    let now = c.put_joined-2.new.octets in
    let new = c.put_joined-2.result in
    let size = front_length source 0 (c.args.joined.now.unit * n) (omega (arith, c.requires.all)) in
    second_written aligned (IsInline c.args.joined.now.unit c.args.least c.args.range n) (IsOnOctet c.args.joined.now.unit c.args.least c.args.range n)
    (anywhere (raw_bits (c.args.joined.now.unit * n) Short node)) (on_octet aligned node (raw_bits (c.args.joined.now.unit * n) Short node)) list was now c.args.at new
    (c.is_inline.ensures.not c.if-is_inline.false)
    (octet_written node (raw_bits (c.args.joined.now.unit * n) Short node) list was mid now c.args.at c.put_start-start.result new aligned
    c.put_start-start.ensures (raw_written aligned (c.args.joined.now.unit * n) node list mid now c.put_start-start.result new size c.put_joined-2.ensures))

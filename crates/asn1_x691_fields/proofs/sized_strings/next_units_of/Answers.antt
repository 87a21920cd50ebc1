use Rattle.std.proofs.Common.{◌+◌, ◌*◌}
use Rattle.asn1_bits.specs.Bits.{bits}
use Rattle.asn1_schema.specs.Encodings.{anywhere}
use Rattle.asn1_schema.specs.Fields.{raw_bits}
use Rattle.asn1_schema.specs.PiecesOfParts.{bits_of}
use Rattle.asn1_x691.specs.declared.fault.FaultKind.TheVariants.{Short}
use Rattle.asn1_x691.specs.Fields.{on_octet}
use Rattle.asn1_x691.specs.Strings.{IsInline, IsOnOctet}
use Rattle.asn1_x691_fields.specs.NumberSteps.{octet_read, second_read}
use Rattle.asn1_x691_fields.proofs.sized_strings.next_units_of.Goals as goal

pub returns-clause-read : goal.returns-clause-read
returns-clause-read c =
    let list = bits c.args.octets.now in
    let node = c.args.node in
    let n = c.args.least + c.args.more in
    let field = raw_bits (c.args.unit * n) Short node in
    let new = c.next_run-2.new.state in
    second_read list c.args.state.now new (λ s. bits_of list s) (IsInline c.args.unit c.args.least c.args.range n)
    (IsOnOctet c.args.unit c.args.least c.args.range n) (anywhere field) (on_octet c.args.is_aligned node field)
    c.next_run-2.result (c.is_inline.ensures.not c.if-is_inline.false)
    (octet_read list c.args.state.now c.next_start.new.state new (λ s. bits_of list s) c.args.is_aligned node field
    c.next_run-2.result c.in_ok-next_start.ensures.read c.next_run-2.ensures.read)

use Rattle.std.proofs.Common.{◌/◌, ap, sym, ◌∙◌, arith}
use Rattle.asn1_bits.specs.View.{View, list_of}
use Rattle.asn1_bits.specs.BitStr.{view_of, bits_of}
use Rattle.asn1_bits.specs.Laws.ViewLaws.{length-list_of}
use Rattle.asn1_oid.specs.Reading.{contents_reading}
use Rattle.asn1_oid.specs.Laws.ReadingLaws.{contents_read}
use Rattle.asn1_values.specs.Walk.{octets_of}
use Rattle.asn1_values.proofs.OctetLemmas.{octets-octets_of}
use Rattle.asn1_values.proofs.bit_fields.identifier.identifier_of.Goals as goal

pub returns : goal.returns
returns c =
    let b = c.bits.result in
    let octets = octets_of ((view_of b).len / 8) (bits_of b) in
    let contents = c.in-Ok.ensures.contents in
    let read =
    contents_read c.in-Ok.oid octets
    (octets-octets_of ((view_of b).len / 8) (bits_of b) (omega (arith, length-list_of (view_of b) b.within)))
    contents.0 contents.1 in
    ap (λ (v : View). contents_reading (octets_of (v.len / 8) (list_of v))) (sym c.bits.ensures) ∙ read

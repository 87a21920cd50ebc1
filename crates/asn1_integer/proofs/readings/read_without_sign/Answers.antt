use Rattle.std.proofs.Common.{rules, arith}
use Rattle.asn1_number.specs.Laws.OctetLaws.{octets_from_places}
use Rattle.asn1_integer.proofs.UnsignedLemmas.{empty_unread, too_long_unread, read_without_sign, read_below_half, unread_above_half}
use Rattle.asn1_integer.proofs.readings.read_without_sign.Goals as goal

pub returns-then-is_empty : goal.returns-then-is_empty
returns-then-is_empty c = empty_unread c.args.is_signed c.args.size c.args.octets.now (search rules)

pub returns-then-octets-size : goal.returns-then-octets-size
returns-then-octets-size c = too_long_unread c.args.is_signed c.args.size c.args.octets.now c.if-octets-size.true

pub returns-then-not-is_signed : goal.returns-then-not-is_signed
returns-then-not-is_signed c =
    read_without_sign c.args.is_signed c.args.size c.unsigned_value-bits.result c.args.octets.now
    c.if-not-is_signed.true
    (octets_from_places c.args.octets.now (λ i. omega (arith, c.type_inv.octets i))) (search rules)
    c.if-octets-size.false c.unsigned_value-bits.ensures

pub returns-then-bits-width : goal.returns-then-bits-width
returns-then-bits-width c =
    unread_above_half c.args.is_signed c.args.size c.unsigned_value-bits.result c.args.octets.now
    c.if-not-is_signed.false c.requires (search rules) c.if-octets-size.false c.unsigned_value-bits.ensures
    c.if-bits-width.true

pub returns : goal.returns
returns c =
    read_below_half c.args.is_signed c.args.size c.unsigned_value-bits.result c.args.octets.now c.if-not-is_signed.false
    c.requires (search rules) c.if-octets-size.false c.unsigned_value-bits.ensures c.if-bits-width.false

use Rattle.std.proofs.Common.{rules, arith, ◌≡◌, ◌<◌, length, of_z}
use Rattle.std.specs.Int.{w128}
use Rattle.asn1_number.specs.Octets.{signed}
use Rattle.asn1_number.specs.Readings.{SignedOf}
use Rattle.asn1_number.specs.Laws.OctetLaws.{octets_from_places}
use Rattle.asn1_integer.proofs.ReadingLemmas.{reading_empty, signed_too_long_at, signed_is_read_at, signed_in_range}
use Rattle.asn1_integer.proofs.readings.read_signed_type.Goals as goal

pub returns-then-is_empty : goal.returns-then-is_empty
returns-then-is_empty c = reading_empty (SignedOf c.args.size) c.args.octets.now (search rules)

pub returns-then-octets-size : goal.returns-then-octets-size
returns-then-octets-size c = signed_too_long_at c.args.size c.args.octets.now (search rules) c.if-octets-size.true

pub returns : goal.returns
returns c =
    let some : 0 < length c.args.octets.now = search rules in
    let bits : c.cast_unsigned.result ≡ of_z w128 (signed c.args.octets.now) = search rules in (
      signed c.args.octets.now,
      signed_is_read_at c.args.size c.args.octets.now some c.if-octets-size.false,
      bits,
      signed_in_range c.args.size c.args.octets.now
          (octets_from_places c.args.octets.now (λ i. omega (arith, c.type_inv.octets i))) some c.if-octets-size.false,
    )

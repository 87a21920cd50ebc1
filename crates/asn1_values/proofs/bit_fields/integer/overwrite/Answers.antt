use Rattle.std.proofs.Common.{◌*◌, length, refl}
use Rattle.asn1_bits.specs.Bits.{bits}
use Rattle.asn1_bits.specs.Laws.DigitLaws.{length-bits}
use Rattle.asn1_values.specs.Fields.{Integer}
use Rattle.asn1_values.proofs.OverLemmas.{reached}
use Rattle.asn1_values.proofs.bit_fields.integer.overwrite.Goals as goal

pub overwrite_shortest-requires : goal.overwrite_shortest-requires
overwrite_shortest-requires c = λ octets s.
    reached (Integer c.args.number.now) (bits octets) (8 * length octets) (8 * length c.args.target.now)
    c.args.position (octets, s, refl) (length-bits octets) c.requires.within

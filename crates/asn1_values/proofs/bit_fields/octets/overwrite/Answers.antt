use Rattle.std.proofs.Common.{◌*◌, length, refl}
use Rattle.asn1_bits.specs.Bits.{bits}
use Rattle.asn1_bits.specs.Octets.{octets_in}
use Rattle.asn1_bits.specs.Laws.DigitLaws.{length-bits}
use Rattle.asn1_values.specs.Fields.{Octets}
use Rattle.asn1_values.proofs.OverLemmas.{reached}
use Rattle.asn1_values.proofs.bit_fields.octets.overwrite.Goals as goal

pub overwrite_octets-requires : goal.overwrite_octets-requires
overwrite_octets-requires c =
    let o = octets_in c.args.octets.now in
    rw c.as_ref.ensures.list
    (reached (Octets o) (bits o) (8 * length o) (8 * length c.args.target.now) c.args.position
    (c.as_ref.ensures.octets, refl) (length-bits o) c.requires.within)

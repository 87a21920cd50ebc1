use Rattle.std.proofs.Common.{◌*◌, length, refl}
use Rattle.asn1_bits.specs.Bits.{digits}
use Rattle.asn1_bits.specs.Laws.DigitLaws.{length-digits}
use Rattle.asn1_values.specs.Fields.{Number}
use Rattle.asn1_values.proofs.OverLemmas.{reached}
use Rattle.asn1_values.proofs.bit_fields.number.overwrite.Goals as goal

pub overwrite_digits-requires : goal.overwrite_digits-requires
overwrite_digits-requires c =
    let n = c.args.value in
    let w = c.args.width in
    let fits = c.requires.fits in
    record {
      few = fits.1.0;
      within =
          reached (Number n w) (digits n w) w (8 * length c.args.target.now) c.args.position
          (fits.1.0, fits.1.1, refl) (length-digits n w) c.requires.within;
    }

use Rattle.std.proofs.Common.{◌*◌, length, refl, arith}
use Rattle.asn1_bits.specs.Bits.{digits}
use Rattle.asn1_bits.specs.Laws.DigitLaws.{length-digits}
use Rattle.asn1_alphabets.specs.AlphabetView.{alphabet_of}
use Rattle.asn1_values.specs.Fields.{Character}
use Rattle.asn1_values.proofs.OverLemmas.{reached}
use Rattle.asn1_values.proofs.bit_fields.character.overwrite.Goals as goal

pub overwrite_digits-requires : goal.overwrite_digits-requires
overwrite_digits-requires c =
    let a = alphabet_of c.args.alphabet.now in
    let k = c.in-Ok.code in
    record {
      few = omega arith;
      within =
          rw c.width.ensures.value
          (reached (Character a c.args.character) (digits k a.width) a.width (8 * length c.args.target.now)
          c.args.position (k, c.in-Ok.ensures.0, refl) (length-digits k a.width) c.requires.within);
    }

pub returns : goal.returns
returns c =
    let a = alphabet_of c.args.alphabet.now in
    let k = c.in-Ok.code in
    let over = rw (c.from.ensures, c.width.ensures.value) at c.overwrite_digits.ensures in
    (digits k a.width, (k, c.in-Ok.ensures.0, refl), over)

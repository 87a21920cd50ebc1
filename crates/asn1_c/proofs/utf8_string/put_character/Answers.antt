use Rattle.std.proofs.Common.{arith}
use Rattle.asn1_c.proofs.TextCharacterLemmas.{fits_one, fits_two}
use Rattle.asn1_c.proofs.utf8_string.put_character.Goals as goal

pub overflow_cast-octets : goal.overflow_cast-octets
overflow_cast-octets c =
    let small = fits_two c.args.name c.args.character c.in-Bmp.is c.requires.set in omega arith

pub overflow_cast-character : goal.overflow_cast-character
overflow_cast-character c =
    let small = fits_one c.args.name c.args.character c.in_default.not-Bmp c.requires.set in omega arith

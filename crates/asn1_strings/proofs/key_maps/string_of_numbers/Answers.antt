use Rattle.std.proofs.Common.{map}
use Rattle.asn1_bits.specs.BitStr.{bits_of}
use Rattle.asn1_bits.specs.Bits.{number}
use Rattle.asn1_strings.specs.Pieces.{pieces}
use Rattle.asn1_strings.proofs.KeyLemmas.{keyed_itself}
use Rattle.asn1_strings.proofs.key_maps.string_of_numbers.Goals as goal

pub returns : goal.returns
returns g c =
    rw (keyed_itself g.S.HasCharacterSet.CHARACTER_SET_NAME
    (map number (pieces c.args.characters.width (bits_of c.args.characters.bits)))) at c.decode_string.ensures

use Rattle.std.proofs.Common.{◌≡◌, refl, map}
use Rattle.std.specs.Int.{w16, from_be_bytes}
use Rattle.asn1_strings.specs.Strings.{character_octets}
use Rattle.asn1_strings.proofs.OctetLemmas.{pairs, low_in}
use Rattle.asn1_characters.specs.declared.character_set.CharacterSetName.{CharacterSetName}
use Rattle.asn1_characters.specs.declared.character_set.CharacterSetName.TheVariants.{Bmp, General, Graphic, IA5, Numeric, Printable, Teletex, Visible}
use Rattle.asn1_strings.proofs.code_unit.U16CodeUnit.are_in.Goals as goal

-- one string has two octets a character
two_is_bmp : (name : CharacterSetName) → 2 ≡ character_octets name → name ≡ Bmp
two_is_bmp Bmp two = refl
two_is_bmp General two = cc
two_is_bmp Graphic two = cc
two_is_bmp IA5 two = cc
two_is_bmp Numeric two = cc
two_is_bmp Printable two = cc
two_is_bmp Teletex two = cc
two_is_bmp Visible two = cc

pub returns : goal.returns
returns c =
    let numbers = map (from_be_bytes w16) c.as_chunks.result.0.now in
    rw (
      two_is_bmp c.args._name c.requires,
      pairs c.args.octets.now,
      ← c.as_chunks.ensures.front,
      c.largest_pair.ensures,
    ) (low_in Bmp 65533 numbers refl)

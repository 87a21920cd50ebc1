-- The error that each string has of its own.
use Rattle.std.specs.Prelude.{ℕ}
use Rattle.asn1_characters.specs.declared.character_set.CharacterSetName.{CharacterSetName}
use Rattle.asn1_characters.specs.declared.character_set.CharacterSetName.TheVariants as names
use Rattle.asn1_characters.specs.declared.error.InvalidRestrictedString.{InvalidRestrictedString}
use Rattle.asn1_characters.specs.declared.error.InvalidRestrictedString.TheVariants as strings

-- the error of a string for a character that its set lacks
abbrev pub own_error : CharacterSetName → ℕ → InvalidRestrictedString
own_error names.Bmp c = strings.InvalidBmpString (record { character = c })
own_error names.General c = strings.InvalidGeneralString (record { character = c })
own_error names.Graphic c = strings.InvalidGraphicString (record { character = c })
own_error names.IA5 c = strings.InvalidIA5String (record { character = c })
own_error names.Numeric c = strings.InvalidNumericString (record { character = c })
own_error names.Printable c = strings.InvalidPrintableString (record { character = c })
own_error names.Teletex c = strings.InvalidTeletexString (record { character = c })
own_error names.Visible c = strings.InvalidVisibleString (record { character = c })

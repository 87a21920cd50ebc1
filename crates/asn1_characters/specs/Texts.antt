-- The printed texts of names and errors, byte by byte.
use Rattle.std.specs.Prelude.{◌++◌, ℕ, List, codes}
use Rattle.std.specs.Fmt.{decimal}
use Rattle.asn1_characters.specs.declared.character_set.CharacterSetName.{CharacterSetName}
use Rattle.asn1_characters.specs.declared.character_set.CharacterSetName.TheVariants.{Bmp, General, Graphic, IA5, Numeric, Printable, Teletex, Visible}
use Rattle.asn1_characters.specs.declared.error.InvalidRestrictedString.{InvalidRestrictedString as RestrictedError}
use Rattle.asn1_characters.specs.declared.error.InvalidRestrictedString.TheVariants as strings
use Rattle.asn1_characters.specs.declared.error.PermittedAlphabetError.{PermittedAlphabetError}
use Rattle.asn1_characters.specs.declared.error.PermittedAlphabetError.TheVariants.{Other, InvalidData, IndexNotFound, CharacterNotFound, InvalidRestrictedString, Memory}

-- the printed name of a string
abbrev pub set_name : CharacterSetName → List ℕ
set_name Bmp = codes "BMPString"
set_name General = codes "GeneralString"
set_name Graphic = codes "GraphicString"
set_name IA5 = codes "IA5String"
set_name Numeric = codes "NumericString"
set_name Printable = codes "PrintableString"
set_name Teletex = codes "TeletexString"
set_name Visible = codes "VisibleString"

-- what a string says of a character that it may not hold, before the character's decimal value
abbrev pub refusal_text : CharacterSetName → List ℕ
refusal_text Bmp = codes "Invalid BMP string, character decimal value: "
refusal_text General = codes "Invalid general string, character decimal value: "
refusal_text Graphic = codes "Invalid graphic string, character decimal value: "
refusal_text IA5 = codes "Invalid ISO 646/ASCII, character decimal value: "
refusal_text Numeric = codes "Invalid numeric string, character decimal value: "
refusal_text Printable = codes "Invalid printable string, character decimal value: "
refusal_text Teletex = codes "Invalid teletex string, character decimal value: "
refusal_text Visible =
    codes "Invalid visible string: only space (0x20) and all graphically visible characters (0x21-0x7E) allowed, character decimal value: "

-- the text of a string's own error
abbrev pub character_text : CharacterSetName → ℕ → List ℕ
character_text name c = refusal_text name ++ decimal c

-- the text of the error that the enum holds
abbrev pub restricted_text : RestrictedError → List ℕ
restricted_text (strings.InvalidBmpString e) = character_text Bmp e.character
restricted_text (strings.InvalidGeneralString e) = character_text General e.character
restricted_text (strings.InvalidGraphicString e) = character_text Graphic e.character
restricted_text (strings.InvalidIA5String e) = character_text IA5 e.character
restricted_text (strings.InvalidNumericString e) = character_text Numeric e.character
restricted_text (strings.InvalidPrintableString e) = character_text Printable e.character
restricted_text (strings.InvalidTeletexString e) = character_text Teletex e.character
restricted_text (strings.InvalidVisibleString e) = character_text Visible e.character

-- the text of an error
abbrev pub alphabet_error_text : PermittedAlphabetError → List ℕ
alphabet_error_text (Other name) =
    codes "error converting to string: Character set width set to zero when parsing string " ++
    set_name name
alphabet_error_text (InvalidData l w) =
    codes "length of bits (" ++ (decimal l ++
    (codes ") provided not divisible by character width (" ++ (decimal w ++ codes ")")))
alphabet_error_text (IndexNotFound i) = codes "index not found " ++ decimal i
alphabet_error_text (CharacterNotFound c) =
    codes "Character with decimal value " ++ decimal c ++
    codes " not found from the permitted list."
alphabet_error_text (InvalidRestrictedString e) =
    codes "Invalid alphabet constrained string: " ++ restricted_text e
alphabet_error_text Memory = codes "out of memory"

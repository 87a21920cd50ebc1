-- What a string of some characters is, or why there is none.
use Rattle.std.specs.Prelude.{◌≡◌, ◌≢◌, ◌%◌, ◌==◌, ℕ, Bool, not, List, [], length, map, find, Option, Result, Ok, Err, if◌then◌else◌}
use Rattle.std.specs.Option.{option_map_or}
use Rattle.asn1_bits.specs.Bits.{number}
use Rattle.asn1_characters.specs.Sets.{base_set, has_character}
use Rattle.asn1_strings.specs.Pieces.{pieces, unsigned}
use Rattle.asn1_characters.specs.Errors.{own_error}
use Rattle.asn1_characters.specs.declared.character_set.CharacterSetName.{CharacterSetName}
use Rattle.asn1_characters.specs.declared.character_set.CharacterSetName.TheVariants.{Bmp, General, Graphic, IA5, Numeric, Printable, Teletex, Visible}
use Rattle.asn1_characters.specs.declared.error.PermittedAlphabetError.{PermittedAlphabetError}
use Rattle.asn1_characters.specs.declared.error.PermittedAlphabetError.TheVariants.{Other, InvalidData, IndexNotFound, CharacterNotFound, InvalidRestrictedString, Memory}

-- what is read: the characters of a string, or its error
abbrev pub Reading : Type 0
Reading = Result (List ℕ) PermittedAlphabetError

-- how many octets a character has (X.690 8.23): two in `BmpString`, one in the other seven
abbrev pub character_octets : CharacterSetName → ℕ
character_octets Bmp = 2
character_octets General = 1
character_octets Graphic = 1
character_octets IA5 = 1
character_octets Numeric = 1
character_octets Printable = 1
character_octets Teletex = 1
character_octets Visible = 1

-- the first of the characters that a set lacks
abbrev pub first_outside : List ℕ → List ℕ → Option ℕ
first_outside set cs = find (λ c. not (has_character set c)) cs

-- the string of these characters: all of them, or the string's own error for the first that it may
-- not hold
abbrev pub string_of_characters : CharacterSetName → List ℕ → Reading
string_of_characters name cs =
    option_map_or (λ c. Err (InvalidRestrictedString (own_error name c)))
    (first_outside (base_set name) cs) (Ok cs)

-- the string of characters of w octets each, most significant first
abbrev pub string_of_octets : CharacterSetName → ℕ → List ℕ → Reading
string_of_octets name w octets =
    if w == 0 then Err (Other name)
    else (if length octets % w == 0
    then string_of_characters name (map unsigned (pieces w octets))
    else Err (InvalidData (length octets) w))

-- the string of characters of w bits each, most significant first
abbrev pub string_of_bits : CharacterSetName → ℕ → List Bool → Reading
string_of_bits name w bits =
    if w == 0 then Err (InvalidData (length bits) w)
    else (if length bits % w == 0
    then string_of_characters name (map number (pieces w bits))
    else Err (InvalidData (length bits) w))

-- `Memory` is returned only for what would otherwise be a string that is not empty. Every other error is
-- the one that was read.
abbrev pub Refuses : PermittedAlphabetError → Reading → Type 0
Refuses Memory (Ok cs) = cs ≢ []
Refuses Memory (Err e) = ⊥
Refuses (Other name) read = read ≡ Err (Other name)
Refuses (InvalidData l w) read = read ≡ Err (InvalidData l w)
Refuses (IndexNotFound i) read = read ≡ Err (IndexNotFound i)
Refuses (CharacterNotFound c) read = read ≡ Err (CharacterNotFound c)
Refuses (InvalidRestrictedString e) read = read ≡ Err (InvalidRestrictedString e)

-- A result answers a reading: `Ok` of a string whose characters (`view`) are those read; or the
-- very error that was read; or `Memory`, and then only if a string with at least one character
-- was to be made.
abbrev pub Answers : {S : Type 0} → (S → List ℕ) → Result S PermittedAlphabetError → Reading →
    Type 0
Answers view (Ok s) read = read ≡ Ok (view s)
Answers view (Err e) read = Refuses e read

-- The sets that C names by numbers, and the characters of a string's octets.
use Rattle.std.specs.Prelude.{◌+◌, ◌*◌, ◌/◌, ◌%◌, ◌^◌, ◌&&◌, nat_lt, ℕ, Bool, List, [], ◌∷◌, Option, Some, None, length, slice_get, slice_index, if◌then◌else◌}
use Rattle.std.specs.Prelude.{true, false, map, ◌≡◌, encode_utf8_all}
use Rattle.std.specs.Char.{IsScalar}
use Rattle.std.specs.List.{range_with_len, flat_map}
use Rattle.asn1_characters.specs.Sets.{base_set, has_character}
use Rattle.std.specs.Option.{option_map, option_and_then}
use Rattle.asn1_characters.specs.declared.character_set.CharacterSetName.{CharacterSetName}
use Rattle.asn1_characters.specs.declared.character_set.CharacterSetName.TheVariants.{Bmp, General, Graphic, IA5, Numeric, Printable, Teletex, Visible}
use Rattle.asn1_alphabets.specs.Alphabet.{Alphabet, effective}
use Rattle.asn1_c.specs.declared.alphabets.Alphabet.{Alphabet as InC}
use Rattle.asn1_strings.specs.Strings.{character_octets}

-- the set of a number
abbrev pub set_named : ℕ → Option CharacterSetName
set_named kind =
    slice_get (Bmp ∷ General ∷ Graphic ∷ IA5 ∷ Numeric ∷ Printable ∷ Teletex ∷ Visible ∷ []) kind

-- how many whole characters the octets have
abbrev pub character_count : CharacterSetName → List ℕ → ℕ
character_count name octets = length octets / character_octets name

-- the character at an index: one octet, or two, most significant first
abbrev pub character_at : CharacterSetName → List ℕ → ℕ → ℕ
character_at Bmp octets i = 256 * slice_index octets (2 * i) + slice_index octets (2 * i + 1)
character_at name octets i = slice_index octets i

-- the first `n` characters of a string's octets, and all of them
abbrev pub characters_before : CharacterSetName → List ℕ → ℕ → List ℕ
characters_before name octets n = map (character_at name octets) (range_with_len 0 n)

abbrev pub characters : CharacterSetName → List ℕ → List ℕ
characters name octets = characters_before name octets (character_count name octets)

-- whether each character of the string has its Unicode number: those of ISO 646 and
-- those of two octets (ISO/IEC 10646)
abbrev pub is_unicode : CharacterSetName → Bool
is_unicode Bmp = true
is_unicode General = false
is_unicode Graphic = false
is_unicode IA5 = true
is_unicode Numeric = true
is_unicode Printable = true
is_unicode Teletex = false
is_unicode Visible = true

-- a character of the set that UTF-8 has octets for: no surrogate
abbrev pub IsSpellable : CharacterSetName → ℕ → Type 0
IsSpellable name c = (has_character (base_set name) c ≡ true) × IsScalar c

-- the UTF-8 of a string's octets
abbrev pub utf8_of : CharacterSetName → List ℕ → List ℕ
utf8_of name octets = encode_utf8_all (characters name octets)

-- the octets of a character (X.690 8.23): one, or two with the most significant first
abbrev pub octets_of_character : CharacterSetName → ℕ → List ℕ
octets_of_character Bmp c = c / 256 ∷ c % 256 ∷ []
octets_of_character name c = c ∷ []

-- the octets of characters, one after another
abbrev pub octets_of_characters : CharacterSetName → List ℕ → List ℕ
octets_of_characters name cs = flat_map (octets_of_character name) cs

-- the permitted set, if one is given
abbrev pub permitted_set : Bool → List ℕ → Option (List ℕ)
permitted_set permitted set = if permitted then Some set else None

-- the alphabet of a string with a permitted set, if there is one
abbrev pub alphabet_named : ℕ → Bool → List ℕ → Bool → Option Alphabet
alphabet_named kind permitted set aligned =
    option_map (λ name. effective name (permitted_set permitted set) aligned) (set_named kind)

-- the alphabet that C's struct names; a permitted set of more than 2 ^ 32 characters is none
abbrev pub alphabet_in : InC → Option Alphabet
alphabet_in a =
    if a.permitted && nat_lt (2 ^ 32) (length a.set.now) then None
    else alphabet_named a.kind a.permitted a.set.now a.aligned

-- the alphabet at an index of C's list
abbrev pub alphabet_at : List InC → ℕ → Option Alphabet
alphabet_at alphabets i = option_and_then alphabet_in (slice_get alphabets i)

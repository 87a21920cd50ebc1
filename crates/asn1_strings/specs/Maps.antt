-- Strings whose bits are read by a map from keys to characters.
use Rattle.std.specs.Prelude.{◌%◌, ◌^◌, ◌==◌, ℕ, Bool, true, not, List, length, map, find, filter_map, Option, Some, None, Ok, Err, slice_get, nat_le, if◌then◌else◌}
use Rattle.std.specs.Option.{option_map_or}
use Rattle.std.specs.Ordering.{nat_cmp}
use Rattle.std.specs.BTreeMap.{BTreeMap, btree_map_len, get, values}
use Rattle.asn1_bits.specs.Bits.{number}
use Rattle.asn1_characters.specs.Widths.{ceil_log2}
use Rattle.asn1_characters.specs.Sets.{base_set, base_count, base_largest, has_character, largest}
use Rattle.asn1_strings.specs.Pieces.{pieces}
use Rattle.asn1_characters.specs.Errors.{own_error}
use Rattle.asn1_strings.specs.Strings.{Reading, string_of_characters}
use Rattle.asn1_characters.specs.declared.character_set.CharacterSetName.{CharacterSetName}
use Rattle.asn1_characters.specs.declared.error.PermittedAlphabetError.{PermittedAlphabetError}
use Rattle.asn1_characters.specs.declared.error.PermittedAlphabetError.TheVariants.{InvalidData, IndexNotFound, InvalidRestrictedString}

-- what strings read of a map: how many entries it has, its largest character, or 0, and the
-- character of each key
pub record KeyMap : Type 0 where
  pub count : ℕ
  pub largest : ℕ
  pub get : ℕ → Option ℕ

-- the base set of a string, with its indices as keys
abbrev pub base_map : CharacterSetName → KeyMap
base_map name = record {
  count = base_count name;
  largest = base_largest name;
  get = slice_get (base_set name);
}

-- the entries of a map
abbrev pub map_of_entries : BTreeMap ℕ ℕ → KeyMap
map_of_entries m = record {
  count = btree_map_len m;
  largest = largest (values m);
  get = λ k. get nat_cmp m k;
}

-- a key is invalid where it is missing, or where the string may not hold its character
abbrev pub is_wrong_key : CharacterSetName → (ℕ → Option ℕ) → ℕ → Bool
is_wrong_key name get k = option_map_or (λ c. not (has_character (base_set name) c)) (get k) true

-- the error of an invalid key, by what is at it
abbrev pub key_error : CharacterSetName → ℕ → Option ℕ → PermittedAlphabetError
key_error name k None = IndexNotFound k
key_error name k (Some c) = InvalidRestrictedString (own_error name c)

-- the string of the characters at these keys: all of them, or the error of the first invalid key
abbrev pub string_of_keys : CharacterSetName → (ℕ → Option ℕ) → List ℕ → Reading
string_of_keys name get keys =
    option_map_or (λ k. Err (key_error name k (get k))) (find (is_wrong_key name get) keys)
    (Ok (filter_map get keys))

-- How bits are read by a map of n entries. They are cut into pieces of ceil_log2 n bits. If the
-- map's largest character needs more bits than that, each piece is the key of a
-- character of the map; otherwise each piece is the character itself.
abbrev pub string_of_map : CharacterSetName → KeyMap → List Bool → Reading
string_of_map name m bits =
    let w = ceil_log2 m.count in
    if w == 0 then Err (InvalidData (length bits) 0)
    else (if length bits % w == 0
    then (if nat_le (2 ^ w) m.largest
    then string_of_keys name m.get (map number (pieces w bits))
    else string_of_characters name (map number (pieces w bits)))
    else Err (InvalidData (length bits) w))

-- with no map, the base set by its indices
abbrev pub string_of_alphabet : CharacterSetName → Option (BTreeMap ℕ ℕ) → List Bool → Reading
string_of_alphabet name None bits = string_of_map name (base_map name) bits
string_of_alphabet name (Some m) bits = string_of_map name (map_of_entries m) bits

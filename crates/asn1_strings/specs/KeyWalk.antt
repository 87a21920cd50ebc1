-- Characters at keys, as far as a walk has come.
use Rattle.std.specs.Prelude.{◌≡◌, ◌^◌, ◌-◌, ◌<◌, ℕ, true, List, slice_index, Option, Some}
use Rattle.asn1_characters.specs.Sets.{base_set, has_character}
use Rattle.asn1_strings.specs.Maps.{KeyMap}
use Rattle.asn1_characters.specs.declared.character_set.CharacterSetName.{CharacterSetName}

-- each number of 32 bits as its own key
abbrev pub itself : KeyMap
itself = record { count = 2 ^ 32; largest = 2 ^ 32 - 1; get = Some }

-- each of the first n characters is that of the key at its index, and the string may hold it
abbrev pub AreCharactersOf : CharacterSetName → (ℕ → Option ℕ) → List ℕ → ℕ → List ℕ → Type 0
AreCharactersOf name get keys n cs =
    (k : ℕ) → k < n → (get (slice_index keys k) ≡ Some (slice_index cs k))
    × (has_character (base_set name) (slice_index cs k) ≡ true)

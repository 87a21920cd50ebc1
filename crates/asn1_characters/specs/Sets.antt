-- The base sets of the eight restricted strings (X.680 41), by their ranges.
use Rattle.std.specs.Prelude.{◌+◌, ◌-◌, ◌^◌, ◌==◌, ◌≤◌, ◌<◌, ℕ, Bool, true, false, List, [], ◌∷◌, length, fold, max, nat_le}
use Rattle.std.specs.List.{list_any, flat_map, range_with_len}
use Rattle.asn1_characters.specs.Widths.{ceil_log2}
use Rattle.asn1_characters.specs.declared.character_set.CharacterSetName.{CharacterSetName}
use Rattle.asn1_characters.specs.declared.character_set.CharacterSetName.TheVariants.{Bmp, General, Graphic, IA5, Numeric, Printable, Teletex, Visible}

-- the ranges of a set, first and last character of each, in the order of the set
abbrev pub ranges_of : CharacterSetName → List (ℕ × ℕ)
ranges_of Bmp = (0, 0xFFFD) ∷ []
ranges_of General = (0, 0x7F) ∷ (0xA1, 0xFF) ∷ []
ranges_of Graphic = (0x20, 0x7E) ∷ (0xA1, 0xFF) ∷ []
ranges_of IA5 = (0, 0x7F) ∷ []
ranges_of Numeric = (0x20, 0x20) ∷ (0x30, 0x39) ∷ []
ranges_of Printable =
    (0x41, 0x5A) ∷ (0x61, 0x7A) ∷ (0x30, 0x39) ∷ (0x20, 0x20) ∷ (0x27, 0x29) ∷
    (0x2B, 0x2F) ∷ (0x3A, 0x3A) ∷ (0x3D, 0x3D) ∷ (0x3F, 0x3F) ∷ []
ranges_of Teletex = (0, 0xFF) ∷ []
ranges_of Visible = (0x20, 0x7E) ∷ []

-- the characters of a range
abbrev pub characters_between : ℕ × ℕ → List ℕ
characters_between r = range_with_len r.0 (r.1 + 1 - r.0)

-- the characters of a set, in its order
unfoldable pub base_set : CharacterSetName → List ℕ
base_set name = flat_map characters_between (ranges_of name)

-- whether a set has a character
abbrev pub has_character : List ℕ → ℕ → Bool
has_character set c = list_any (λ x. x == c) set

-- the largest character of a set, and 0 where it has none: none is larger, as the law `no_larger`
-- says
abbrev pub largest : List ℕ → ℕ
largest set = fold max 0 set

-- how many characters a base set has
abbrev pub base_count : CharacterSetName → ℕ
base_count name = length (base_set name)

-- the width of its characters
abbrev pub base_width : CharacterSetName → ℕ
base_width name = ceil_log2 (base_count name)

-- its largest character
abbrev pub base_largest : CharacterSetName → ℕ
base_largest name = largest (base_set name)

-- whether its characters are written by their indices, since the largest does not fit the width
abbrev pub base_indexed : CharacterSetName → Bool
base_indexed name = nat_le (2 ^ base_width name) (base_largest name)

-- whether the set lies in memory, character by character
abbrev pub is_listed : CharacterSetName → Bool
is_listed IA5 = true
is_listed Visible = true
is_listed name = false

-- a range of the table: its ends are in order, and below 65534
pub record IsRange (r : ℕ × ℕ) : Type 0 where
  pub ordered : r.0 ≤ r.1
  pub small : r.1 < 65534

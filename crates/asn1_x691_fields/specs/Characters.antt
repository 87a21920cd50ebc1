-- The characters that codes are.
use Rattle.std.specs.Prelude.{◌≡◌, ℕ, ◌+◌, ◌-◌, ◌^◌, ◌<◌, ◌≤◌, Bool, true, false, List, [], ◌∷◌, map, drop, slice_range}
use Rattle.asn1_schema.specs.declared.part.Codes.{Codes}
use Rattle.asn1_schema.specs.declared.part.Codes.TheVariants.{Numbers, Indices}
use Rattle.asn1_schema.specs.declared.tables.Range.{Range}
use Rattle.asn1_schema.specs.declared.tables.Rows.{Rows}
use Rattle.asn1_schema.specs.CharactersOfParts.{character_at, numbers_in}
use Rattle.asn1_x691.specs.Alphabets.{IsIn, count_of, width_of, are_within, HasCode}
use Rattle.asn1_x691_fields.specs.declared.alphabets.Alphabet.{Alphabet}
use Rattle.asn1_x691_fields.specs.declared.quick_texts.Found.{Found}

-- the ranges of rows of a table
abbrev pub rows_of : List Range → Rows → List Range
rows_of ranges rows = slice_range ranges rows.from (rows.from + rows.count)

-- ranges in ascending order, none empty, from a number on
abbrev pub AreAscending : ℕ → List Range → Type 0
AreAscending from [] = Unit {0}
AreAscending from (r ∷ ranges) = (from ≤ r.first) × (r.first ≤ r.last) × AreAscending (r.last + 1) ranges

-- an alphabet says how its characters are encoded
pub record IsAlphabet (a : Alphabet) : Type 0 where
  pub width : a.width ≡ width_of a.is_aligned a.ranges.now
  pub narrow : a.width ≤ 128
  pub small : (c : ℕ) → IsIn a.ranges.now c → c < 2 ^ 32
  pub count : a.count ≡ count_of a.ranges.now
  pub ascending : a.are_ascending ≡ true → AreAscending 0 a.ranges.now
  pub numbers : a.are_numbers ≡ are_within a.ranges.now (2 ^ width_of a.is_aligned a.ranges.now - 1)

-- the character of a code, which is its number or its index
abbrev pub character_by : Bool → List Range → ℕ → ℕ
character_by true ranges i = i
character_by false ranges i = character_at ranges i

-- `count` characters from a bit on
abbrev pub characters_at : Alphabet → List Bool → ℕ → ℕ → List ℕ
characters_at a list at count = map (character_by a.are_numbers a.ranges.now) (numbers_in a.width count (drop at list))

-- characters of a message, whose alphabet is these ranges
abbrev pub characters_in : Found → List Range → List Bool → List ℕ
characters_in f ranges list = map (character_by f.are_numbers ranges) (numbers_in f.width f.count (drop f.at list))

-- each of these codes is of a character
abbrev pub AreCodes : Alphabet → List ℕ → Type 0
AreCodes a [] = Unit {0}
AreCodes a (i ∷ codes) = HasCode a.is_aligned a.ranges.now i (character_by a.are_numbers a.ranges.now i) × AreCodes a codes

-- what a part says of its codes
abbrev pub codes_by : Bool → Rows → Codes
codes_by true rows = Numbers
codes_by false rows = Indices rows

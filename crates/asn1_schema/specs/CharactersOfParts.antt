-- The characters that a part of the program is.
use Rattle.std.specs.Prelude.{ℕ, zero, suc, ◌+◌, ◌-◌, nat_lt, max, Bool, true, false, List, [], ◌∷◌, map, take, drop, slice_range}
use Rattle.asn1_bits.specs.Bits.{number}
use Rattle.asn1_schema.specs.declared.part.Codes.{Codes}
use Rattle.asn1_schema.specs.declared.part.Codes.TheVariants.{Numbers, Indices}
use Rattle.asn1_schema.specs.declared.part.Characters.{Characters}
use Rattle.asn1_schema.specs.declared.tables.Range.{Range}

-- how many characters of the ranges are below a number
abbrev pub characters_below : List Range → ℕ → ℕ
characters_below [] c = 0
characters_below (r ∷ ranges) c = ((c - r.first) - (c - (r.last + 1))) + characters_below ranges c

-- the first number that exceeds all characters of the ranges
abbrev pub end_of : List Range → ℕ
end_of [] = 0
end_of (r ∷ ranges) = max (r.last + 1) (end_of ranges)

-- the first of the numbers from `from` on up to which there are more than `i` characters, or the number after `count` of them
abbrev pub first_past : List Range → ℕ → ℕ → ℕ → ℕ
first_past ranges i from zero = from
first_past ranges i from (suc count) =
    elim (nat_lt i (characters_below ranges (from + 1))) [ true ↦ from | false ↦ first_past ranges i (from + 1) count ]

-- the character of an index among those of ranges, in ascending order
unfoldable pub character_at : List Range → ℕ → ℕ
character_at ranges i = first_past ranges i 0 (end_of ranges)

abbrev pub character_of : List Range → Codes → ℕ → ℕ
character_of ranges Numbers i = i
character_of ranges (Indices rows) i = character_at (slice_range ranges rows.from (rows.from + rows.count)) i

-- `count` numbers of `width` bits each, one after another
abbrev pub numbers_in : ℕ → ℕ → List Bool → List ℕ
numbers_in width zero list = []
numbers_in width (suc count) list = number (take width list) ∷ numbers_in width count (drop width list)

abbrev pub characters_of : List Range → List Bool → Characters → List ℕ
characters_of ranges list text = map (character_of ranges text.codes) (numbers_in text.width text.count (drop text.at list))

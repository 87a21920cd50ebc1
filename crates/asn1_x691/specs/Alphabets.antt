-- Alphabets: ranges of characters, and the codes of their characters (X.691 30.5).
use Rattle.std.specs.Prelude.{◌≡◌, ℕ, ◌+◌, ◌-◌, ◌^◌, ◌≤◌, ◌⊎◌, nat_lt, Bool, true, false, List, [], ◌∷◌}
use Rattle.asn1_characters.specs.Widths.{width_for}
use Rattle.asn1_schema.specs.declared.tables.Range.{Range}

abbrev pub IsIn : List Range → ℕ → Type 0
IsIn [] c = ⊥
IsIn (r ∷ ranges) c = ((r.first ≤ c) × (c ≤ r.last)) ⊎ IsIn ranges c

abbrev pub count_of : List Range → ℕ
count_of [] = 0
count_of (r ∷ ranges) = (r.last + 1 - r.first) + count_of ranges

-- how many characters of the ranges are below a character
abbrev pub below : List Range → ℕ → ℕ
below [] c = 0
below (r ∷ ranges) c = ((c - r.first) - (c - (r.last + 1))) + below ranges c

-- whether no character exceeds a number
abbrev pub are_within : List Range → ℕ → Bool
are_within [] most = true
are_within (r ∷ ranges) most = elim (nat_lt most r.last) [ true ↦ false | false ↦ are_within ranges most ]

-- in how many bits a character is (30.5.2, 30.5.3)
abbrev pub width_of : Bool → List Range → ℕ
width_of aligned ranges = width_for aligned (count_of ranges)

-- the code of a character: its number, or its index in ascending order (30.5.4)
abbrev pub code_by : Bool → List Range → ℕ → ℕ
code_by true ranges c = c
code_by false ranges c = below ranges c

abbrev pub code_of : Bool → List Range → ℕ → ℕ
code_of aligned ranges c = code_by (are_within ranges (2 ^ width_of aligned ranges - 1)) ranges c

abbrev pub HasCode : Bool → List Range → ℕ → ℕ → Type 0
HasCode aligned ranges i c = IsIn ranges c × (i ≡ code_of aligned ranges c)

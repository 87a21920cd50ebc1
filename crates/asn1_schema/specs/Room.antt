-- The parts that a slice holds.
use Rattle.std.specs.Prelude.{◌≡◌, ℕ, ◌-◌, ◌^◌, ◌≤◌, ◌⊎◌, Bool, List, ◌++◌, length, take, map}
use Rattle.asn1_schema.specs.declared.part.Part.{Part}
use Rattle.asn1_schema.specs.declared.tables.Range.{Range}
use Rattle.asn1_schema.specs.Pieces.{Parts}
use Rattle.asn1_schema.specs.PiecesOfParts.{piece_of}

-- the slice holds the first of these parts, as many as it has room for; the count is theirs, up to the greatest
pub record Holds (ranges : List Range) (list : List Bool) (room : List Part) (count : ℕ) (tape : Parts) : Type 0 where
  pub kept : map (piece_of ranges list) (take count room) ≡ take (length room) tape
  pub many : (count ≡ length tape) ⊎ ((2 ^ 64 - 1 ≤ length tape) × (count ≡ 2 ^ 64 - 1))

-- these parts follow those that the slice held
abbrev pub IsGrown : List Range → List Bool → List Part → ℕ → List Part → ℕ → Parts → Type 0
IsGrown ranges list was old now new more = (tape : Parts) → Holds ranges list was old tape → Holds ranges list now new (tape ++ more)

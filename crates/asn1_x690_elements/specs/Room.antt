-- The headers that a slice holds.
use Rattle.std.specs.Prelude.{◌≡◌, ℕ, ◌-◌, ◌^◌, ◌≤◌, ◌⊎◌, Bool, List, ◌++◌, length, take, map}
use Rattle.asn1_schema.specs.PiecesOfParts.{bits_at}
use Rattle.asn1_x690_fields.specs.declared.header.Header.{Header}
use Rattle.asn1_x690_elements.specs.Elements.{Element}

-- the element of a header, in a message of these bits
abbrev pub shown : List Bool → Header → Element
shown list h = (h.identifier, bits_at list h.from (h.to - h.from))

-- the slice holds the first of these elements, as many as it has room for; the count is theirs, up to the greatest
pub record Holds (list : List Bool) (room : List Header) (count : ℕ) (elements : List Element) : Type 0 where
  pub kept : map (shown list) (take count room) ≡ take (length room) elements
  pub many : (count ≡ length elements) ⊎ ((2 ^ 64 - 1 ≤ length elements) × (count ≡ 2 ^ 64 - 1))

-- these elements follow those that the slice held
abbrev pub IsGrown : List Bool → List Header → ℕ → List Header → ℕ → List Element → Type 0
IsGrown list was old now new more = (elements : List Element) → Holds list was old elements → Holds list now new (elements ++ more)

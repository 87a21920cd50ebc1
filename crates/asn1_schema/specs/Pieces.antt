-- Pieces: a value of a type as a flat list, in the order of the type's text. A contract sees a part of the program as a piece.
use Rattle.std.specs.Prelude.{ℕ, ℤ, Bool, List}

pub data Piece : Type 0 where
  -- an optional component that is absent, or an addition
  Absent : Piece
  -- NULL
  Null : Piece
  -- BOOLEAN
  Truth : Bool → Piece
  -- INTEGER
  Integer : ℤ → Piece
  -- ENUMERATED: the index of the enumeral in the type's table; or an unknown one, by its index among the additions
  Enumerated : ℕ → Piece
  UnknownEnumerated : ℕ → Piece
  -- BIT STRING
  Bits : List Bool → Piece
  -- OCTET STRING, and what is kept by its contents octets: REAL, identifiers, strings of octets
  Octets : List Bool → Piece
  -- character strings and times: the numbers of the characters
  Text : List ℕ → Piece
  -- this many components of the root of a SEQUENCE or SET follow, each a value or `Absent`; then `Additions` where this is true
  Sequence : ℕ → Bool → Piece
  -- this many additions follow, each a value, `Absent` or `Unknown`
  Additions : ℕ → Piece
  -- this many items of a SEQUENCE OF or a SET OF follow
  Count : ℕ → Piece
  -- the alternative of this index follows; or an unknown one, by its index among the additions
  Chosen : ℕ → Piece
  UnknownChosen : ℕ → Piece
  -- the octets of a value that the schema does not know
  Unknown : List Bool → Piece

abbrev pub Parts : Type 0
Parts = List Piece

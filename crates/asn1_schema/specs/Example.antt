-- An example of a type in the algebra: SEQUENCE { a INTEGER (0..7) OPTIONAL, b INTEGER (0..7) }, with a presence bit and
-- three bits for each number, as unaligned PER encodes it (X.691 19).
use Rattle.std.specs.Prelude.{ℕ, pos, Bool, true, false, List, [], ◌∷◌}
use Rattle.asn1_schema.specs.Pieces.{Piece, Absent, Integer, Sequence, Parts}
use Rattle.asn1_schema.specs.Encodings.{anywhere, number}
use Rattle.asn1_schema.specs.Fields.{raw_bits}
use Rattle.asn1_schema.specs.TypeEncodings.{TypeEncoding, AfterHeader, leaf, put, header, end_of_components, mandatory, optional}

abbrev pub integer : ℕ → Piece
integer n = Integer (pos n)

-- three bits are missing (fault 0), or bits and components do not agree (fault 1)
abbrev pub small_integer : ℕ → TypeEncoding ℕ
small_integer = leaf (anywhere (number 3 0 1)) integer 1

abbrev pub components : ℕ → AfterHeader ℕ (List Bool)
components = optional 1 0 small_integer (mandatory small_integer (end_of_components 1 0))

abbrev pub example : ℕ → TypeEncoding ℕ
example = put (Sequence 2 false) (header (raw_bits 1 0 0) 1 components 0) 0

-- without `a` and with `b` of 5: a bit 0, and 101
abbrev pub example_parts : Parts
example_parts = Sequence 2 false ∷ Absent ∷ integer 5 ∷ []

abbrev pub example_bits : List Bool
example_bits = false ∷ true ∷ false ∷ true ∷ []

-- Examples: an open type that holds an INTEGER (0..255), and a SEQUENCE by its tables.
use Rattle.std.specs.Prelude.{ℕ, pos, Bool, true, false, List, [], ◌∷◌, Option, None}
use Rattle.asn1_schema.specs.declared.tables.Member.{Member}
use Rattle.asn1_schema.specs.declared.tables.Presence.TheVariants.{Mandatory, Optional}
use Rattle.asn1_schema.specs.declared.tables.Node.{Node}
use Rattle.asn1_schema.specs.declared.tables.Node.TheVariants as type
use Rattle.asn1_schema.specs.Pieces.{Piece, Parts, Absent, Sequence, Truth, Integer}
use Rattle.asn1_schema.specs.TypeEncodings.{TypeEncoding, leaf}
use Rattle.asn1_x691.specs.declared.fault.FaultKind.{FaultKind}
use Rattle.asn1_x691.specs.Fields.{constrained}
use Rattle.asn1_x691.specs.Fragments.{most_fragments}
use Rattle.asn1_x691.specs.OpenTypes.{open_type}

abbrev pub integer : ℕ → Piece
integer n = Integer (pos n)

abbrev pub octet_integer : Bool → ℕ → TypeEncoding FaultKind
octet_integer aligned = leaf (constrained aligned 255 1) integer 1

abbrev pub opened : Bool → ℕ → TypeEncoding FaultKind
opened aligned = open_type most_fragments aligned 0 (octet_integer aligned)

-- one octet, 05
abbrev pub opened_five : List Bool
opened_five = false ∷ false ∷ false ∷ false ∷ false ∷ false ∷ false ∷ true
    ∷ false ∷ false ∷ false ∷ false ∷ false ∷ true ∷ false ∷ true ∷ []

-- ---- SEQUENCE { a ENUMERATED OPTIONAL, b BOOLEAN }, where a has eight values

abbrev pub example_nodes : List Node
example_nodes =
    type.Sequence (record { from = 0; count = 2 }) false (record { from = 0; count = 0 }) ∷ type.Enumerated 7 false 0 ∷ type.Boolean ∷ []

abbrev pub example_members : List Member
example_members = record { node = 1; presence = Optional } ∷ record { node = 2; presence = Mandatory } ∷ []

abbrev pub no_defaults : ℕ → ℕ → Option (List Bool)
no_defaults value phase = None

-- without `a`, and `b` is true: a presence bit 0, and a bit 1
abbrev pub example_parts : Parts
example_parts = Sequence 2 false ∷ Absent ∷ Truth true ∷ []

abbrev pub example_bits : List Bool
example_bits = false ∷ true ∷ []

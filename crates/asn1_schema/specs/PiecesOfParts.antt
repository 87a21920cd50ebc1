-- The piece that a part of the program is, in a message of these bits, by the table of ranges of a schema.
use Rattle.std.specs.Prelude.{ℕ, zero, suc, ℤ, pos, negsuc, ◌+ℤ◌, ◌+◌, ◌-◌, ◌*◌, ◌^◌, ◌++◌, Bool, true, false, List, [], ◌∷◌, length, take, drop}
use Rattle.asn1_bits.specs.Bits.{number}
use Rattle.asn1_schema.specs.declared.part.Span.{Span}
use Rattle.asn1_schema.specs.declared.part.Fragments.{Fragments}
use Rattle.asn1_schema.specs.declared.part.Natural.{Natural}
use Rattle.asn1_schema.specs.declared.part.Natural.TheVariants.{Small, Large}
use Rattle.asn1_schema.specs.declared.part.Part.{Part}
use Rattle.asn1_schema.specs.declared.part.Part.TheVariants as part
use Rattle.asn1_schema.specs.declared.tables.Range.{Range}
use Rattle.asn1_schema.specs.CharactersOfParts.{characters_of}
use Rattle.asn1_schema.specs.Pieces.{Piece, Absent, Null, Truth, Integer, Enumerated, UnknownEnumerated, Bits, Octets, Text, Sequence, Additions, Count, Chosen, UnknownChosen, Unknown}

abbrev pub bits_at : List Bool → ℕ → ℕ → List Bool
bits_at list at count = take count (drop at list)

abbrev pub bits_of : List Bool → Span → List Bool
bits_of list s = bits_at list s.at s.count

-- fragments of 65,536 units of `unit` bits, each after a length octet but the first
unfoldable pub whole_fragments : ℕ → List Bool → ℕ → ℕ → List Bool
whole_fragments unit list at zero = []
whole_fragments unit list at (suc times) =
    bits_at list at (unit * 65536) ++ whole_fragments unit list (at + unit * 65536 + 8) times

-- all units that are in fragments
abbrev pub joined : ℕ → List Bool → Fragments → List Bool
joined unit list f = whole_fragments unit list f.at f.whole ++ (bits_of list f.middle ++ bits_of list f.last)

abbrev pub natural_of : List Bool → Natural → ℕ
natural_of list (Small n) = n
natural_of list (Large s) = number (bits_of list s)

-- a whole number in two's complement
abbrev pub signed_number : List Bool → ℤ
signed_number [] = pos 0
signed_number (false ∷ bits) = pos (number bits)
signed_number (true ∷ bits) = negsuc (2 ^ length bits - 1 - number bits)

abbrev pub piece_of : List Range → List Bool → Part → Piece
piece_of ranges list part.Absent = Absent
piece_of ranges list part.Null = Null
piece_of ranges list (part.Truth b) = Truth b
piece_of ranges list (part.Integer n) = Integer n
piece_of ranges list (part.Above least at count) = Integer (least +ℤ pos (number (bits_at list at count)))
piece_of ranges list (part.Signed s) = Integer (signed_number (bits_of list s))
piece_of ranges list (part.Enumerated i) = Enumerated i
piece_of ranges list (part.UnknownEnumerated i) = UnknownEnumerated (natural_of list i)
piece_of ranges list (part.Bits s) = Bits (bits_of list s)
piece_of ranges list (part.BitsInFragments f) = Bits (joined 1 list f)
piece_of ranges list (part.Octets s) = Octets (bits_of list s)
piece_of ranges list (part.OctetsInFragments f) = Octets (joined 8 list f)
piece_of ranges list (part.Text text) = Text (characters_of ranges list text)
piece_of ranges list (part.Sequence count is_extended) = Sequence count is_extended
piece_of ranges list (part.Additions count) = Additions count
piece_of ranges list (part.Count n) = Count n
piece_of ranges list (part.Chosen i) = Chosen i
piece_of ranges list (part.UnknownChosen i) = UnknownChosen (natural_of list i)
piece_of ranges list (part.Unknown s) = Unknown (bits_of list s)

-- The encodings of default values.
use Rattle.std.specs.Prelude.{ℕ, ◌+◌, ◌*◌, nat_le, Bool, true, false, List, length, Option, Some, None, slice_get}
use Rattle.asn1_bits.specs.Bits.{bits}
use Rattle.asn1_schema.specs.declared.part.Span.{Span}
use Rattle.asn1_schema.specs.PiecesOfParts.{bits_of}
use Rattle.asn1_x691_fields.specs.declared.defaults.Defaults.{Defaults}

-- In the ALIGNED variant each value has eight rows of the table, and otherwise one.
abbrev pub row_of : Bool → ℕ → ℕ → ℕ
row_of false value phase = value
row_of true value phase = 8 * value + phase

abbrev pub bits_if : Bool → List ℕ → Span → Option (List Bool)
bits_if false octets s = None
bits_if true octets s = Some (bits_of (bits octets) s)

abbrev pub default_at : List ℕ → Option Span → Option (List Bool)
default_at octets None = None
default_at octets (Some s) = bits_if (nat_le (s.at + s.count) (8 * length octets)) octets s

-- the bits that encode a default value after `phase` bits of an octet; none where the table has none
abbrev pub default_in : Defaults → Bool → ℕ → ℕ → Option (List Bool)
default_in d aligned value phase = default_at d.octets.now (slice_get d.spans.now (row_of aligned value phase))

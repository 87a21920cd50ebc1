-- What the part of a value without components says.
use Rattle.std.specs.Prelude.{ℕ, ℤ, Bool, true, false, Option, Some, None}
use Rattle.asn1_schema.specs.declared.part.Span.{Span}
use Rattle.asn1_schema.specs.declared.part.Part.{Part}
use Rattle.asn1_schema.specs.declared.part.Part.TheVariants as part

abbrev pub is_absent_part : Option Part → Bool
is_absent_part (Some part.Absent) = true
is_absent_part _ = false

abbrev pub truth_in : Option Part → Option Bool
truth_in (Some (part.Truth b)) = Some b
truth_in _ = None

abbrev pub integer_in : Option Part → Option ℤ
integer_in (Some (part.Integer n)) = Some n
integer_in _ = None

abbrev pub enumerated_in : Option Part → Option ℕ
enumerated_in (Some (part.Enumerated i)) = Some i
enumerated_in _ = None

abbrev pub bits_in : Option Part → Option Span
bits_in (Some (part.Bits s)) = Some s
bits_in _ = None

abbrev pub octets_in : Option Part → Option Span
octets_in (Some (part.Octets s)) = Some s
octets_in _ = None

-- an INTEGER by the octets of its two's complement
abbrev pub signed_in : Option Part → Option Span
signed_in (Some (part.Signed s)) = Some s
signed_in _ = None

-- What a call did that encodes an addition of a SEQUENCE.
use Rattle.std.specs.Prelude.{◌≡◌, ℕ, ◌+◌, ◌<◌, Bool, true, false, List, ◌∷◌, length}
use Rattle.asn1_schema.specs.Pieces.{Absent}
use Rattle.asn1_schema.specs.TypeEncodings.{TypeEncoding, IsAbsent}
use Rattle.asn1_x691.specs.declared.fault.FaultKind.{FaultKind}
use Rattle.asn1_x691_writers.specs.declared.state.Writer.{Writer}
use Rattle.asn1_x691_encode.specs.declared.context.Context.{Context}
use Rattle.asn1_x691_encode.specs.Encoding.{tape, Outcome}
use Rattle.asn1_x691_encode.specs.Components.{IsPassedOver, IsIncluded}

-- whether the next part tells a component that is present
abbrev pub IsPresence : Context → ℕ → Bool → Type 0
IsPresence c next true = IsAbsent (tape c next) → ⊥
IsPresence c next false = (next < length c.parts.now) × (tape c next ≡ Absent ∷ tape c (next + 1))

-- an addition that is absent was skipped, and one that is present was encoded after its bit was set, or not encoded
abbrev pub AdditionStep : Context → (ℕ → TypeEncoding FaultKind) → ℕ → Bool → List ℕ → Writer → List ℕ → Writer → Bool → Type 0
AdditionStep c A head false was old now new r = (r ≡ true) × IsPassedOver c was old now new
AdditionStep c A head true was old now new true = IsIncluded c A head was old now new
AdditionStep c A head true was old now new false = (IsAbsent (tape c old.next) → ⊥) × Outcome c A was old now new false

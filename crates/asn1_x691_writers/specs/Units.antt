-- Units that were written after their number.
use Rattle.std.specs.Prelude.{ℕ, Bool, List}
use Rattle.asn1_schema.specs.Encodings.{Encoding}
use Rattle.asn1_x691.specs.declared.fault.FaultKind.{FaultKind}
use Rattle.asn1_x691.specs.Fragments.{units_next, bits_of_units}
use Rattle.asn1_x691_writers.specs.Written.{IsWritten}

-- the number of units was written, as a length or as that of a fragment, and then the units; U says how n units are encoded
pub record AreUnitsOf {Y : Type 0} (U : ℕ → ℕ → Encoding FaultKind Y) (aligned : Bool) (node n : ℕ) (y : Y) (was : List ℕ) (old : ℕ)
    (now : List ℕ) (new : ℕ) : Type 0 where
  pub between : List ℕ
  pub at : ℕ
  pub count : IsWritten aligned (units_next aligned node) n was old between at
  pub units : IsWritten aligned (U n) y between at now new

-- the same of units of `unit` bits
abbrev pub AreUnits : Bool → ℕ → ℕ → ℕ → List Bool → List ℕ → ℕ → List ℕ → ℕ → Type 0
AreUnits aligned unit node n list was old now new = AreUnitsOf (bits_of_units unit node) aligned node n list was old now new

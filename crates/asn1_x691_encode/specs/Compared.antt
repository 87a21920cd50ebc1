-- What comparing bits that were written tells.
use Rattle.std.specs.Prelude.{◌≡◌, ℕ, ◌+◌, ◌*◌, ◌^◌, ◌<◌, ◌≤◌, ◌⊎◌, Bool, true, false, List, Some}
use Rattle.std.specs.Prelude.{length}
use Rattle.asn1_schema.specs.declared.misfit.MisfitKind.TheVariants.{DefaultValue}
use Rattle.asn1_x691.specs.Fields.{phase}
use Rattle.asn1_x691_writers.specs.declared.state.Writer.{Writer}
use Rattle.asn1_x691_writers.specs.declared.state.Rejection.TheVariants.{Misfit}
use Rattle.asn1_x691_encode.specs.declared.context.Context.{Context}
use Rattle.asn1_x691_encode.specs.Encoding.{defaults_in, IsLeft}

-- octets have all bits from one index to another; from 2^64 - 8 on an index does not count bits
abbrev pub IsIn : List ℕ → ℕ → ℕ → Type 0
IsIn octets from to = (from ≤ to) × (to ≤ 8 * length octets) × (to + 8 < 2 ^ 64)

-- bits at a position are those that encode a default value
abbrev pub IsDefaultAt : Context → ℕ → ℕ → List Bool → Type 0
IsDefaultAt c value at list = defaults_in c value (phase c.is_aligned at) ≡ Some list

-- the bits of a value that begins with the part at an index are not those of the default value, or the state says that they are
abbrev pub IsCompared : Context → ℕ → ℕ → ℕ → ℕ → List Bool → Writer → Bool → Type 0
IsCompared c node value first at list new true = IsDefaultAt c value at list → ⊥
IsCompared c node value first at list new false =
    ((new.reason ≡ Misfit DefaultValue) × (new.node ≡ node) × (new.next ≡ first) × IsDefaultAt c value at list) ⊎ IsLeft c new

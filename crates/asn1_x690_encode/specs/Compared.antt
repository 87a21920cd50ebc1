-- What comparing octets that were written tells.
use Rattle.std.specs.Prelude.{◌≡◌, ℕ, ◌+◌, ◌*◌, ◌^◌, ◌<◌, ◌≤◌, ◌⊎◌, Bool, true, false, List, Some, length}
use Rattle.asn1_schema.specs.declared.misfit.MisfitKind.TheVariants.{DefaultValue}
use Rattle.asn1_x691_fields.specs.Defaults.{default_in}
use Rattle.asn1_x691_writers.specs.declared.state.Writer.{Writer}
use Rattle.asn1_x691_writers.specs.declared.state.Rejection.TheVariants.{Misfit}
use Rattle.asn1_x690_encode.specs.declared.context.Context.{Context}
use Rattle.asn1_x690_encode.specs.Encoding.{IsLeft}

-- octets have all bits from one index to another; from 2^64 - 8 on an index does not count bits
abbrev pub IsIn : List ℕ → ℕ → ℕ → Type 0
IsIn octets from to = (from ≤ to) × (to ≤ 8 * length octets) × (to + 8 < 2 ^ 64)

-- the bits are those that encode a default value
abbrev pub IsDefault : Context → ℕ → List Bool → Type 0
IsDefault c value list = default_in c.defaults false value 0 ≡ Some list

-- the bits of a value that begins with the part at an index are not those of the default value, or the state says that they are
abbrev pub IsCompared : Context → ℕ → ℕ → ℕ → List Bool → Writer → Bool → Type 0
IsCompared c node value first list new true = IsDefault c value list → ⊥
IsCompared c node value first list new false =
    ((new.reason ≡ Misfit DefaultValue) × (new.node ≡ node) × (new.next ≡ first) × IsDefault c value list) ⊎ IsLeft c new

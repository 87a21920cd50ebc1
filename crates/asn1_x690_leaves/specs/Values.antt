-- A number that octets are, where 128 bits hold it.
use Rattle.std.specs.Prelude.{◌≡◌, ℤ, ◌^◌, ◌≤◌, Option, Some, None}
use Rattle.asn1_x691_fields.specs.Numbers.{distance}

-- the number; or none where 128 bits do not hold it
abbrev pub IsValue : Option ℤ → ℤ → Type 0
IsValue (Some n) z = n ≡ z
IsValue None z = 2 ^ 127 ≤ distance z

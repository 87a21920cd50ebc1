-- The octets of a buffer.
use Rattle.std.specs.Prelude.{◌≤◌, ℕ, ◌+◌, ◌/◌, Bool, List, take, length}
use Rattle.asn1_bits.specs.Bits.{bits, octets_for, IsZeroFrom}

-- the first len bits of the octets
unfoldable pub bits_shown : List ℕ → ℕ → List Bool
bits_shown octets len = take len (bits octets)

-- The octets hold len bits, and their other bits are zero. There are at most 39 octets from the first
-- on that len bits do not fill.
pub record IsFilled (octets : List ℕ) (len : ℕ) : Type 0 where
  pub count : octets_for len ≤ length octets
  pub few : length octets ≤ len / 8 + 39
  pub rest : IsZeroFrom len (bits octets)

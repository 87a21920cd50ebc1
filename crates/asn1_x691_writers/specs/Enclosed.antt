-- Octets that were written before their number.
use Rattle.std.specs.Prelude.{◌≡◌, ℕ, ◌+◌, ◌*◌, ◌<◌, ◌⊎◌, nat_lt, Bool, true, false, List, length}
use Rattle.asn1_bits.specs.Bits.{bits, digits, overwritten}

-- a number below 16,384 in one octet or two (X.691 11.9.3.6, 11.9.3.7)
abbrev pub length_bits_by : Bool → ℕ → List Bool
length_bits_by true n = digits n 8
length_bits_by false n = digits (32768 + n) 16

abbrev pub length_bits : ℕ → List Bool
length_bits n = length_bits_by (nat_lt n 128) n

-- these bits were written over others, unless the octets are too few
abbrev pub IsOver : List ℕ → ℕ → List Bool → List ℕ → Type 0
IsOver was at list now = (bits now ≡ overwritten (bits was) at list) ⊎ ((now ≡ was) × (8 * length was < at + length list))

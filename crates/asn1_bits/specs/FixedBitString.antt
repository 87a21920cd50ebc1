-- The list of bits of a `FixedBitString`.
use Rattle.std.specs.Prelude.{ℕ, Bool, List, take}
use Rattle.asn1_bits.specs.Bits.{bits}
use Rattle.asn1_bits.specs.declared.fixed_bit_string.FixedBitString.{FixedBitString}

-- its n bits, the first ones of its octets
abbrev pub fixed_bits : (n : ℕ) → FixedBitString n → List Bool
fixed_bits n b = take n (bits b.octets)

-- Octets that lie one after another in the bits of others.
use Rattle.std.specs.Prelude.{ℕ, List, drop}
use Rattle.asn1_bits.specs.Bits.{bits}
use Rattle.asn1_values.specs.Walk.{octets_of}

-- `count` octets, from a bit on
abbrev pub octets_at : List ℕ → ℕ → ℕ → List ℕ
octets_at octets at count = octets_of count (drop at (bits octets))

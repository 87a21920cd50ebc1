-- The octets of an integer at any bit (X.690 8.3, X.691 11.8).
use Rattle.std.specs.Prelude.{◌≡◌, ℕ, ℤ, Bool, List}
use Rattle.asn1_bits.specs.Bits.{bits}
use Rattle.asn1_number.specs.Octets.{IsShortest}

-- the bits are those of the shortest octets of a number
abbrev pub HoldsInteger : List Bool → Type 0
HoldsInteger list = (octets : List ℕ) × (n : ℤ) × IsShortest n octets × (list ≡ bits octets)

-- no octets with these bits are shortest for a number
abbrev pub IsNoInteger : List Bool → Type 0
IsNoInteger list = (octets : List ℕ) (n : ℤ) → list ≡ bits octets → ¬ (IsShortest n octets)

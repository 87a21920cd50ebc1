-- Fields that belong to no standard: bits as they are.
use Rattle.std.specs.Prelude.{ℕ, Bool, List}
use Rattle.asn1_schema.specs.Encodings.{Encoding, any_bits, of_size}

-- `count` bits, as they are
abbrev pub raw_bits : {K : Type 0} → ℕ → K → ℕ → Encoding K (List Bool)
raw_bits count short node = of_size count short node any_bits

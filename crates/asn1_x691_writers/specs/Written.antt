-- What octets hold of a list of bits that is written to them, and what a call wrote.
use Rattle.std.specs.Prelude.{◌≡◌, ℕ, ◌+◌, ◌-◌, ◌*◌, ◌%◌, ◌^◌, ◌≤◌, ◌⊎◌, Bool, true, false, List, [], ◌++◌, length, take}
use Rattle.asn1_bits.specs.Bits.{bits, digits}
use Rattle.asn1_schema.specs.Encodings.{Encoding}
use Rattle.asn1_x691.specs.declared.fault.FaultKind.{FaultKind}
use Rattle.asn1_x691.specs.Fields.{to_octet}

-- An index is the number of the bits before it. From 2^64 - 8 on it tells less: there are as many bits or more, and as many in the
-- last octet.
abbrev pub IsIndex : ℕ → ℕ → Type 0
IsIndex at n = (at ≡ n) ⊎ ((2 ^ 64 - 8 ≤ at) × (at ≤ n) × (at % 8 ≡ n % 8))

-- the bits before the index are the list; octets that are too few for the list hold nothing of it
pub record Holds (octets : List ℕ) (at : ℕ) (list : List Bool) : Type 0 where
  pub index : IsIndex at (length list)
  pub kept : length list ≤ 8 * length octets → take (length list) (bits octets) ≡ list

-- whatever list the octets held, these bits follow it now
pub record IsGrown (was : List ℕ) (old : ℕ) (now : List ℕ) (new : ℕ) (more : List Bool) : Type 0 where
  pub held : (list : List Bool) → Holds was old list → Holds now new (list ++ more)
  pub index : (n : ℕ) → IsIndex old n → IsIndex new (n + length more)

-- in the ALIGNED variant a position in a complete encoding begins as many bits after an octet as the index
abbrev pub IsAlike : Bool → ℕ → ℕ → Type 0
IsAlike aligned position at = aligned ≡ true → position % 8 ≡ at % 8

-- bits that encode x were written
pub record IsWritten {X : Type 0} (aligned : Bool) (A : ℕ → Encoding FaultKind X) (x : X) (was : List ℕ) (old : ℕ) (now : List ℕ)
    (new : ℕ) : Type 0 where
  pub list : List Bool
  pub encodes : (at : ℕ) → IsAlike aligned at old → (A at).encodes x list
  pub grown : IsGrown was old now new list

-- the zeros before a field that begins at an octet in the ALIGNED variant
abbrev pub start_of : Bool → ℕ → List Bool
start_of false at = []
start_of true at = digits 0 (to_octet at)

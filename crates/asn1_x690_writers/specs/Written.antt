-- What a call wrote that encodes a value.
use Rattle.std.specs.Prelude.{◌≡◌, ℕ, ◌+◌, ◌*◌, ◌%◌, ◌≤◌, Bool, List, ◌++◌, length, take, drop}
use Rattle.asn1_bits.specs.Bits.{bits}
use Rattle.asn1_schema.specs.Encodings.{Encoding}
use Rattle.asn1_x690.specs.declared.fault.FaultKind.{FaultKind}
use Rattle.asn1_x690.specs.Elements.{length_octets}
use Rattle.asn1_x691_writers.specs.Written.{IsGrown}

-- whole octets that encode x were written
pub record IsWritten {X : Type 0} (A : ℕ → Encoding FaultKind X) (x : X) (was : List ℕ) (old : ℕ) (now : List ℕ) (new : ℕ) : Type 0 where
  pub list : List Bool
  pub encodes : (node : ℕ) → (A node).encodes x list
  pub whole : length list % 8 ≡ 0
  pub grown : IsGrown was old now new list

-- the octets have these bits after `at` others, unless they are too few
abbrev pub HaveBits : List ℕ → ℕ → List Bool → Type 0
HaveBits octets at list = at + length list ≤ 8 * length octets → take (length list) (drop at (bits octets)) ≡ list

-- the octets begin with a length of `width` bits, and with as many contents octets as it says
pub record IsLengthBefore (contents : List Bool) (count : ℕ) (now : List ℕ) (width : ℕ) : Type 0 where
  pub list : List Bool
  pub encodes : (node : ℕ) → (length_octets node).encodes count list
  pub size : length list ≡ width
  pub have : HaveBits now 0 (list ++ contents)

-- if contents of `count` octets fit after their length of `width` bits, all of them fit after the reserved octets
abbrev pub AreNotCut : List ℕ → ℕ → ℕ → ℕ → Type 0
AreNotCut was reserved count width = width + 8 * count ≤ 8 * length was → reserved + count ≤ length was

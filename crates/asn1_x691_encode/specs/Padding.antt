-- The zeros after a complete encoding, as a call wrote them.
use Rattle.std.specs.Prelude.{◌≡◌, ℕ, ◌+◌, ◌*◌, ◌<◌, ◌≤◌, List, Option, Some, None}
use Rattle.asn1_bits.specs.Bits.{digits}
use Rattle.asn1_x691.specs.OpenTypes.{padding_of}
use Rattle.asn1_x691_writers.specs.Written.{IsGrown}

-- `count` octets are a value of `n` bits and the zeros after it, which were written
pub record IsPadded (was : List ℕ) (start at n : ℕ) (now : List ℕ) (count : ℕ) : Type 0 where
  pub few : count < 16384
  pub size : n + padding_of n ≡ 8 * count
  pub grown : IsGrown was at now (start + 8 * count) (digits 0 (padding_of n))

abbrev pub PadOutcome : List ℕ → ℕ → ℕ → ℕ → List ℕ → Option ℕ → Type 0
PadOutcome was start at n now (Some count) = IsPadded was start at n now count
PadOutcome was start at n now None = 131072 ≤ n + padding_of n

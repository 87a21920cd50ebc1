-- The contents octets of a REAL in the form that canonical encodings have (X.690 8.5, 11.3).
use Rattle.std.specs.Prelude.{◌≡◌, ◌≢◌, ℕ, ◌+◌, ◌-◌, ◌%◌, ◌<◌, ◌≤◌, ◌⊎◌, Bool, List, length, slice_index, All}
use Rattle.asn1_bits.specs.Bits.{bits}
use Rattle.asn1_schema.specs.Times.{IsDigit, AreDigits}

abbrev pub AreOctets : List ℕ → Type 0
AreOctets octets = (i : ℕ) → slice_index octets i < 256

-- ---- PLUS-INFINITY, MINUS-INFINITY, NOT-A-NUMBER and minus zero, in this order (8.5.3, 8.5.9)

abbrev pub IsSpecial : List ℕ → Type 0
IsSpecial octets = (length octets ≡ 1) × (64 ≤ slice_index octets 0) × (slice_index octets 0 ≤ 67)

-- ---- base 2 (8.5.7, 11.3.1)

-- Two's complement of minimal length: the first nine bits are not all zeros, and not all ones.
pub record IsExponent (octets : List ℕ) (from count : ℕ) : Type 0 where
  pub some : 1 ≤ count
  pub not_zeros : 2 ≤ count → slice_index octets from ≡ 0 → 128 ≤ slice_index octets (from + 1)
  pub not_ones : 2 ≤ count → slice_index octets from ≡ 255 → slice_index octets (from + 1) < 128

-- A mantissa is odd, and its first octet is not zero.
pub record IsMantissa (octets : List ℕ) (from : ℕ) : Type 0 where
  pub some : from < length octets
  pub first : slice_index octets from ≢ 0
  pub odd : slice_index octets (length octets - 1) % 2 ≡ 1

-- Bit 8 of the first octet is 1, bit 7 is the sign, bits 6 to 3 are 0: base 2, and no scaling factor. Bits 2 and 1 tell how many octets
-- the exponent has: one to three; or the next octet tells it.
pub record IsBinary (octets : List ℕ) : Type 0 where
  pub some : 1 ≤ length octets
  pub form : 128 ≤ slice_index octets 0
  pub base : slice_index octets 0 % 64 < 4
  pub exponent : ((slice_index octets 0 % 4 < 3) × IsExponent octets 1 (slice_index octets 0 % 4 + 1)
      × IsMantissa octets (slice_index octets 0 % 4 + 2))
      ⊎ ((slice_index octets 0 % 4 ≡ 3) × (2 ≤ length octets) × (4 ≤ slice_index octets 1) × IsExponent octets 2 (slice_index octets 1)
      × IsMantissa octets (slice_index octets 1 + 2))

-- ---- base 10 (8.5.8, 11.3.2): NR3 of ISO 6093, by the characters -?DD..D.E-?DD..D or -?DD..D.E+0

-- digits from an index on up to the full stop at another; neither the first nor the last is 0 (11.3.2.4)
pub record IsInteger (octets : List ℕ) (from stop : ℕ) : Type 0 where
  pub some : from < stop
  pub digits : AreDigits octets from stop
  pub first : slice_index octets from ≢ 48
  pub last : slice_index octets (stop - 1) ≢ 48

-- +0, or digits of which the first is not 0, maybe after a minus sign (11.3.2.6)
abbrev pub IsPlusZero : List ℕ → ℕ → Type 0
IsPlusZero octets from = (length octets ≡ from + 2) × (slice_index octets from ≡ 43) × (slice_index octets (from + 1) ≡ 48)

pub record IsNumeral (octets : List ℕ) (from : ℕ) : Type 0 where
  pub some : from < length octets
  pub digits : AreDigits octets from (length octets)
  pub first : slice_index octets from ≢ 48

abbrev pub IsDecimalExponent : List ℕ → ℕ → Type 0
IsDecimalExponent octets from = IsPlusZero octets from
    ⊎ (IsNumeral octets from ⊎ ((slice_index octets from ≡ 45) × IsNumeral octets (from + 1)))

-- what follows the sign, from an index on; the full stop is at another
pub record IsDecimalFrom (octets : List ℕ) (from stop : ℕ) : Type 0 where
  pub integer : IsInteger octets from stop
  pub within : stop + 1 < length octets
  pub full_stop : slice_index octets stop ≡ 46
  pub mark : slice_index octets (stop + 1) ≡ 69
  pub exponent : IsDecimalExponent octets (stop + 2)

abbrev pub IsUnsigned : List ℕ → ℕ → Type 0
IsUnsigned octets from = (stop : ℕ) × IsDecimalFrom octets from stop

pub record IsDecimal (octets : List ℕ) : Type 0 where
  pub some : 2 ≤ length octets
  pub form : slice_index octets 0 ≡ 3
  pub number : IsUnsigned octets 1 ⊎ ((slice_index octets 1 ≡ 45) × IsUnsigned octets 2)

-- ---- all forms

abbrev pub AreReal : List ℕ → Type 0
AreReal octets = (length octets ≡ 0) ⊎ (IsSpecial octets ⊎ (IsBinary octets ⊎ IsDecimal octets))

-- the same of their bits
abbrev pub IsReal : List Bool → Type 0
IsReal contents = (octets : List ℕ) × All (λ octet. octet < 256) octets × AreReal octets × (contents ≡ bits octets)

-- How the twelve native types are seen by their low bits, of a number of 128 bits. No public
-- clause cites this.
use Rattle.std.specs.Prelude.{◌≡◌, ℕ, ◌-◌, ◌*◌, ◌^◌, ◌%◌, ◌≤◌, ℤ, pos, ◌-ℤ◌, Bool, true, false, nat_lt, if◌then◌else◌, Result, Ok, Err}
use Rattle.std.specs.Int.{cast_unsigned, w128}
use Rattle.asn1_number.specs.declared.error.IntegerError.{IntegerError}
use Rattle.asn1_number.specs.declared.error.IntegerError.TheVariants.{UnexpectedEmptyInput, Overflow, TypeConversionFailed, Memory}
use Rattle.asn1_number.specs.Readings.{IntegerKind, SignedOf, UnsignedOf, IsInRange, FitsI128}

-- the type of `size` octets, signed or not
abbrev pub native_kind : Bool → ℕ → IntegerKind
native_kind true size = SignedOf size
native_kind false size = UnsignedOf size

-- one to sixteen octets
abbrev pub IsNativeSize : ℕ → Type 0
IsNativeSize size = (1 ≤ size) × (size ≤ 16)

-- the value that the type has at the low bits of a number
abbrev pub wrapped_bits : Bool → ℕ → ℕ → ℤ
wrapped_bits false size n = pos (n % 2 ^ (8 * size))
wrapped_bits true size n =
    if nat_lt (n % 2 ^ (8 * size)) (2 ^ (8 * size - 1))
    then pos (n % 2 ^ (8 * size))
    else pos (n % 2 ^ (8 * size)) -ℤ pos (2 ^ (8 * size))

-- n has these 128 bits, in two's complement where it is of a signed type
abbrev pub AreBitsOf : Bool → ℤ → ℕ → Type 0
AreBitsOf true n bits = FitsI128 n × (bits ≡ cast_unsigned w128 n)
AreBitsOf false n bits = n ≡ pos bits

-- The call answers as the table does: where the table has a number, its two's complement in 128
-- bits; where the table has an error, the same one.
abbrev pub ReadsBits : IntegerKind → Result ℕ IntegerError → Result ℤ IntegerError → Type 0
ReadsBits kind (Ok bits) reading =
    (n : ℤ) × (reading ≡ Ok n) × (bits ≡ cast_unsigned w128 n) × IsInRange kind n
ReadsBits kind (Err UnexpectedEmptyInput) reading = reading ≡ Err UnexpectedEmptyInput
ReadsBits kind (Err (Overflow bits)) reading = reading ≡ Err (Overflow bits)
ReadsBits kind (Err (TypeConversionFailed bits)) reading = reading ≡ Err (TypeConversionFailed bits)
ReadsBits kind (Err Memory) reading = ⊥

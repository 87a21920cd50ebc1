-- The integer types, and what each reads from octets, as `rasn` 0.30.0 reads them.
use Rattle.std.specs.Prelude.{◌≡◌, ℕ, ◌-◌, ◌*◌, ◌^◌, ℤ, pos, neg_ℤ, ◌<ℤ◌, ◌≤ℤ◌, List, [], ◌∷◌, length, ⊤, nat_lt, nat_le, nat_eq, if◌then◌else◌, Result, Ok, Err}
use Rattle.asn1_number.specs.declared.error.IntegerError.{IntegerError}
use Rattle.asn1_number.specs.declared.error.IntegerError.TheVariants.{UnexpectedEmptyInput, Overflow, TypeConversionFailed, Memory}
use Rattle.asn1_number.specs.Octets.{unsigned, signed}

-- A type of integers: the native signed or unsigned type of a number of octets, or `Integer`.
pub data IntegerKind : Type 0 where
  SignedOf : ℕ → IntegerKind
  UnsignedOf : ℕ → IntegerKind
  Unbounded : IntegerKind

-- the type's bits; `Integer` says `u32::MAX`
abbrev pub width_of : IntegerKind → ℕ
width_of (SignedOf size) = 8 * size
width_of (UnsignedOf size) = 8 * size
width_of Unbounded = 4294967295

-- n is a value of the type
abbrev pub IsInRange : IntegerKind → ℤ → Type 0
IsInRange (SignedOf size) n =
    (neg_ℤ (pos (2 ^ (8 * size - 1))) ≤ℤ n) × (n <ℤ pos (2 ^ (8 * size - 1)))
IsInRange (UnsignedOf size) n = (pos 0 ≤ℤ n) × (n <ℤ pos (2 ^ (8 * size)))
IsInRange Unbounded n = ⊤

-- n is a value of `i128`
abbrev pub FitsI128 : ℤ → Type 0
FitsI128 n = IsInRange (SignedOf 16) n

-- the twelve native types
abbrev pub kind_i8 : IntegerKind
kind_i8 = SignedOf 1

abbrev pub kind_i16 : IntegerKind
kind_i16 = SignedOf 2

abbrev pub kind_i32 : IntegerKind
kind_i32 = SignedOf 4

abbrev pub kind_i64 : IntegerKind
kind_i64 = SignedOf 8

abbrev pub kind_i128 : IntegerKind
kind_i128 = SignedOf 16

abbrev pub kind_isize : IntegerKind
kind_isize = SignedOf 8

abbrev pub kind_u8 : IntegerKind
kind_u8 = UnsignedOf 1

abbrev pub kind_u16 : IntegerKind
kind_u16 = UnsignedOf 2

abbrev pub kind_u32 : IntegerKind
kind_u32 = UnsignedOf 4

abbrev pub kind_u64 : IntegerKind
kind_u64 = UnsignedOf 8

abbrev pub kind_u128 : IntegerKind
kind_u128 = UnsignedOf 16

abbrev pub kind_usize : IntegerKind
kind_usize = UnsignedOf 8

-- how many octets there are, one first zero octet not counted
abbrev pub counted_length : List ℕ → ℕ
counted_length [] = 0
counted_length (b ∷ bs) = if nat_eq b 0 then length bs else length (b ∷ bs)

-- what each type reads from two's complement octets
unfoldable pub signed_reading : IntegerKind → List ℕ → Result ℤ IntegerError
signed_reading kind [] = Err UnexpectedEmptyInput
signed_reading (SignedOf size) (b ∷ bs) =
    if nat_lt size (length (b ∷ bs))
    then Err (Overflow (width_of (SignedOf size)))
    else Ok (signed (b ∷ bs))
signed_reading (UnsignedOf size) (b ∷ bs) =
    if nat_le 128 b
    then Err (TypeConversionFailed (width_of (UnsignedOf size)))
    else (if nat_lt size (counted_length (b ∷ bs))
    then Err (Overflow (width_of (UnsignedOf size)))
    else Ok (signed (b ∷ bs)))
signed_reading Unbounded (b ∷ bs) = Ok (signed (b ∷ bs))

-- what each type reads from unsigned octets
unfoldable pub unsigned_reading : IntegerKind → List ℕ → Result ℤ IntegerError
unsigned_reading kind [] = Err UnexpectedEmptyInput
unsigned_reading (SignedOf size) (b ∷ bs) =
    if nat_lt size (length (b ∷ bs))
    then Err (Overflow (width_of (SignedOf size)))
    else (if nat_lt (unsigned (b ∷ bs)) (2 ^ (width_of (SignedOf size) - 1))
    then Ok (pos (unsigned (b ∷ bs)))
    else Err (TypeConversionFailed (width_of (SignedOf size))))
unsigned_reading (UnsignedOf size) (b ∷ bs) =
    if nat_lt size (length (b ∷ bs))
    then Err (Overflow (width_of (UnsignedOf size)))
    else Ok (pos (unsigned (b ∷ bs)))
unsigned_reading Unbounded (b ∷ bs) = Ok (pos (unsigned (b ∷ bs)))

-- `Memory` is returned by `Integer` alone, for a number outside `i128`
abbrev pub MayWantMemory : IntegerKind → Result ℤ IntegerError → Type 0
MayWantMemory Unbounded (Ok n) = ¬ (FitsI128 n)
MayWantMemory kind reading = ⊥

-- The call answered what the table says: its number or its error. It may answer `Memory` instead
-- only for `Integer`, and only where the table's number lies outside `i128`.
abbrev pub Answers : {T : Type 0} →
    IntegerKind → (T → ℤ) → Result T IntegerError → Result ℤ IntegerError → Type 0
Answers kind value (Ok x) reading = reading ≡ Ok (value x)
Answers kind value (Err UnexpectedEmptyInput) reading = reading ≡ Err UnexpectedEmptyInput
Answers kind value (Err (Overflow bits)) reading = reading ≡ Err (Overflow bits)
Answers kind value (Err (TypeConversionFailed bits)) reading =
    reading ≡ Err (TypeConversionFailed bits)
Answers kind value (Err Memory) reading = MayWantMemory kind reading

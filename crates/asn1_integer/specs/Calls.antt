-- What the calls of `IntegerType` answer, for a type of any kind.
use Rattle.std.specs.Prelude.{◌≡◌, ℕ, ◌^◌, ℤ, pos, ◌+ℤ◌, ◌≤ℤ◌, List, ⊤, Result, Option, MatchOption, IsSomeAnd}
use Rattle.std.specs.Int.{IsNonNegative}
use Rattle.asn1_number.specs.declared.error.IntegerError.{IntegerError}
use Rattle.asn1_number.specs.Octets.{IsShortestUnsigned}
use Rattle.asn1_number.specs.Readings.{IntegerKind, SignedOf, UnsignedOf, Unbounded, IsInRange, FitsI128, signed_reading, unsigned_reading}
use Rattle.asn1_integer.specs.Wrapping.{IsWrapped, IsResidue}

-- the type has numbers below zero
abbrev pub IsSignedKind : IntegerKind → Type 0
IsSignedKind (SignedOf size) = ⊤
IsSignedKind (UnsignedOf size) = ⊥
IsSignedKind Unbounded = ⊤

-- the reading of a type's own form: as unsigned for the unsigned types, otherwise two's complement
abbrev pub own_reading : IntegerKind → List ℕ → Result ℤ IntegerError
own_reading (SignedOf size) o = signed_reading (SignedOf size) o
own_reading (UnsignedOf size) o = unsigned_reading (UnsignedOf size) o
own_reading Unbounded o = signed_reading Unbounded o

-- a precondition of `Integer` alone, which has no residue: that n is not negative
abbrev pub IsNonNegativeUnlessNative : IntegerKind → ℤ → Type 0
IsNonNegativeUnlessNative (SignedOf size) n = ⊤
IsNonNegativeUnlessNative (UnsignedOf size) n = ⊤
IsNonNegativeUnlessNative Unbounded n = IsNonNegative n

-- o is the shortest list of octets whose unsigned value is n modulo 2^WIDTH, for a native
-- type; n itself, for `Integer`
abbrev pub SpellsUnsigned : IntegerKind → ℤ → List ℕ → Type 0
SpellsUnsigned (SignedOf size) n o =
    (r : ℕ) × IsResidue (SignedOf size) n r × IsShortestUnsigned r o
SpellsUnsigned (UnsignedOf size) n o =
    (r : ℕ) × IsResidue (UnsignedOf size) n r × IsShortestUnsigned r o
SpellsUnsigned Unbounded n o = (r : ℕ) × (n ≡ pos r) × IsShortestUnsigned r o

-- n is in reach: of a native type all its numbers, of `Integer` those within `i128`
abbrev pub IsInReach : IntegerKind → ℤ → Type 0
IsInReach (SignedOf size) n = IsInRange (SignedOf size) n
IsInReach (UnsignedOf size) n = IsInRange (UnsignedOf size) n
IsInReach Unbounded n = FitsI128 n

-- n, a result from a and b, is in reach; for `Integer` the two operands too
abbrev pub AreInReach : IntegerKind → ℤ → ℤ → ℤ → Type 0
AreInReach (SignedOf size) a b n = IsInRange (SignedOf size) n
AreInReach (UnsignedOf size) a b n = IsInRange (UnsignedOf size) n
AreInReach Unbounded a b n = FitsI128 a × FitsI128 b × FitsI128 n

-- The answer is Some of n where n is in reach, and None where it is not. a and b are the operands,
-- n is their sum or difference.
abbrev pub IsChecked : {T : Type 0} → IntegerKind → (T → ℤ) → ℤ → ℤ → ℤ → Option T → Type 0
IsChecked kind value a b n result =
    MatchOption result (¬ (AreInReach kind a b n)) (λ x. (value x ≡ n) × AreInReach kind a b n)

-- a native type always has the sum of a and b, wrapped; `Integer` has the sum where it is in reach
abbrev pub WrapsSum : {T : Type 0} → IntegerKind → (T → ℤ) → ℤ → ℤ → Option T → Type 0
WrapsSum (SignedOf size) value a b result =
    IsSomeAnd result (λ x. IsWrapped (SignedOf size) (a +ℤ b) (value x))
WrapsSum (UnsignedOf size) value a b result =
    IsSomeAnd result (λ x. IsWrapped (UnsignedOf size) (a +ℤ b) (value x))
WrapsSum Unbounded value a b result = IsChecked Unbounded value a b (a +ℤ b) result

-- an `Integer` made of n allocates: n is a `u128` above `i128::MAX`
abbrev pub WantsMemory : IntegerKind → ℤ → Type 0
WantsMemory (SignedOf size) n = ⊥
WantsMemory (UnsignedOf size) n = pos (2 ^ 127) ≤ℤ n
WantsMemory Unbounded n = ⊥

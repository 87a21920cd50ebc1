-- The one number of a native type's range that a whole number wraps to.
use Rattle.std.specs.Prelude.{◌≡◌, ℕ, ◌^◌, ◌<◌, ◌≤◌, ℤ, pos, ◌+ℤ◌, ◌*ℤ◌}
use Rattle.asn1_number.specs.Readings.{IntegerKind, width_of, IsInRange}

-- n is m and a multiple of the modulus
abbrev pub DifferByMultiple : ℕ → ℤ → ℤ → Type 0
DifferByMultiple modulus n m = (k : ℤ) × (n ≡ m +ℤ k *ℤ pos modulus)

-- m lies in the native type's range, and differs from n by a multiple of 2 to the type's bits
abbrev pub IsWrapped : IntegerKind → ℤ → ℤ → Type 0
IsWrapped kind n m = IsInRange kind m × DifferByMultiple (2 ^ width_of kind) n m

-- r is n modulo 2 to the native type's bits
abbrev pub IsResidue : IntegerKind → ℤ → ℕ → Type 0
IsResidue kind n r = (r < 2 ^ width_of kind) × DifferByMultiple (2 ^ width_of kind) n (pos r)

-- a whole number wraps to one number of a type of at least one octet
abbrev pub WrapsToOne : (ℕ → IntegerKind) → Type 0
WrapsToOne kind_of =
    (size : ℕ) (n a b : ℤ) → 1 ≤ size →
    IsWrapped (kind_of size) n a → IsWrapped (kind_of size) n b → a ≡ b

-- and has one residue
abbrev pub HasOneResidue : (ℕ → IntegerKind) → Type 0
HasOneResidue kind_of =
    (size : ℕ) (n : ℤ) (r s : ℕ) →
    IsResidue (kind_of size) n r → IsResidue (kind_of size) n s → r ≡ s

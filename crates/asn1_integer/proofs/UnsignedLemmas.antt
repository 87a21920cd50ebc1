-- Lemmas on what the native types read from unsigned octets.
use Rattle.std.proofs.Common.{◌≡◌, ℕ, ◌-◌, ◌*◌, ◌%◌, ◌^◌, ◌<◌, ◌≤◌, ℤ, pos, neg_ℤ, List, [], ◌∷◌, length, refl, ◌∙◌, arith, Bool, true, false, Ok, Err, of_z}
use Rattle.std.specs.Int.{w128}
use Rattle.asn1_integer.proofs.ReadingLemmas.{unsigned_in_range}
use Rattle.std.proofs.lemmas.Bool.{cond-true, cond-false, lt-ltb, le-ltb}
use Rattle.std.proofs.lemmas.Nat.{one_shl}
use borrow.Author.Differences.{at_most_in, below_in, neg_is}
use lib.Dec.{ltb}
use Rattle.asn1_number.specs.declared.error.IntegerError.TheVariants.{UnexpectedEmptyInput, Overflow, TypeConversionFailed}
use Rattle.asn1_number.specs.Octets.{IsOctets, unsigned}
use Rattle.asn1_number.specs.Readings.{IsInRange, SignedOf, UnsignedOf, unsigned_reading}
use Rattle.asn1_integer.specs.NativeBits.{native_kind, IsNativeSize}

pub empty_unread : (signed : Bool) (size : ℕ) (o : List ℕ) → length o ≡ 0
    → unsigned_reading (native_kind signed size) o ≡ Err UnexpectedEmptyInput
unfolding unsigned_reading
empty_unread signed size [] e = refl
empty_unread signed size (b ∷ bs) e = absurd (omega arith)

pub too_long_unread : (signed : Bool) (size : ℕ) (o : List ℕ) → size < length o
    → unsigned_reading (native_kind signed size) o ≡ Err (Overflow (8 * size))
unfolding unsigned_reading
too_long_unread signed size [] l = absurd (omega arith)
too_long_unread true size (b ∷ bs) l = cond-true (ltb size (length (b ∷ bs))) _ _ (lt-ltb _ _ l)
too_long_unread false size (b ∷ bs) l = cond-true (ltb size (length (b ∷ bs))) _ _ (lt-ltb _ _ l)

pub top_bit_unread : (size : ℕ) (o : List ℕ) → 0 < length o → length o ≤ size → 2 ^ (8 * size - 1) ≤ unsigned o
    → unsigned_reading (SignedOf size) o ≡ Err (TypeConversionFailed (8 * size))
unfolding unsigned_reading
top_bit_unread size [] some l h = absurd (omega arith)
top_bit_unread size (b ∷ bs) some l h = cond-false (ltb size (length (b ∷ bs))) _ _ (le-ltb _ _ l)
    ∙ cond-false (ltb (unsigned (b ∷ bs)) (2 ^ (8 * size - 1))) _ _ (le-ltb _ _ h)

pub signed_reads : (size : ℕ) (o : List ℕ) → 0 < length o → length o ≤ size → unsigned o < 2 ^ (8 * size - 1)
    → unsigned_reading (SignedOf size) o ≡ Ok (pos (unsigned o))
unfolding unsigned_reading
signed_reads size [] some l h = absurd (omega arith)
signed_reads size (b ∷ bs) some l h = cond-false (ltb size (length (b ∷ bs))) _ _ (le-ltb _ _ l)
    ∙ cond-true (ltb (unsigned (b ∷ bs)) (2 ^ (8 * size - 1))) _ _ (lt-ltb _ _ h)

pub unsigned_reads : (size : ℕ) (o : List ℕ) → 0 < length o → length o ≤ size
    → unsigned_reading (UnsignedOf size) o ≡ Ok (pos (unsigned o))
unfolding unsigned_reading
unsigned_reads size [] some l = absurd (omega arith)
unsigned_reads size (b ∷ bs) some l = cond-false (ltb size (length (b ∷ bs))) _ _ (le-ltb _ _ l)

pub below_half_in_range : (size n : ℕ) → n < 2 ^ (8 * size - 1) → IsInRange (SignedOf size) (pos n)
below_half_in_range size n h =
    let m = neg_is (pos (2 ^ (8 * size - 1))) in (
      at_most_in (neg_ℤ (pos (2 ^ (8 * size - 1)))) (pos n) (omega arith),
      below_in (pos n) (pos (2 ^ (8 * size - 1)))
          (omega arith),
    )

pub shifted_one : (size : ℕ) → IsNativeSize size → (1 * 2 ^ (8 * size - 1)) % 2 ^ 128 ≡ 2 ^ (8 * size - 1)
shifted_one size s = one_shl (8 * size - 1) 128 (omega arith)

-- what was read of each kind, by the bits that the code has
pub read_without_sign : (signed : Bool) (size bits : ℕ) (o : List ℕ) → signed ≡ false → IsOctets o → 0 < length o
    → length o ≤ size → bits ≡ unsigned o →
    (x : ℤ) × (unsigned_reading (native_kind signed size) o ≡ Ok x) × (bits ≡ of_z w128 x)
    × IsInRange (native_kind signed size) x
read_without_sign true size bits o e h some l b = cc
read_without_sign false size bits o e h some l b =
    (pos (unsigned o), unsigned_reads size o some l, b, unsigned_in_range size o h l)

pub read_below_half : (signed : Bool) (size bits : ℕ) (o : List ℕ) → signed ≡ true → IsNativeSize size → 0 < length o
    → length o ≤ size → bits ≡ unsigned o → bits < (1 * 2 ^ (8 * size - 1)) % 2 ^ 128 →
    (x : ℤ) × (unsigned_reading (native_kind signed size) o ≡ Ok x) × (bits ≡ of_z w128 x)
    × IsInRange (native_kind signed size) x
read_below_half false size bits o e s some l b h = cc
read_below_half true size bits o e s some l b h =
    let small : unsigned o < 2 ^ (8 * size - 1) = omega (arith, shifted_one size s) in
    (pos (unsigned o), signed_reads size o some l small, b, below_half_in_range size (unsigned o) small)

pub unread_above_half : (signed : Bool) (size bits : ℕ) (o : List ℕ) → signed ≡ true → IsNativeSize size → 0 < length o
    → length o ≤ size → bits ≡ unsigned o → (1 * 2 ^ (8 * size - 1)) % 2 ^ 128 ≤ bits →
    unsigned_reading (native_kind signed size) o ≡ Err (TypeConversionFailed (8 * size))
unread_above_half false size bits o e s some l b h = cc
unread_above_half true size bits o e s some l b h = top_bit_unread size o some l (omega (arith, shifted_one size s))

-- Lemmas on the values of the native types.
use Rattle.std.proofs.Common.{◌≡◌, ℕ, zero, suc, ◌+◌, ◌-◌, ◌*◌, ◌%◌, ◌^◌, ◌<◌, ◌≤◌, ℤ, pos, negsuc, ◌-ℤ◌, neg_ℤ, ◌≤ℤ◌, sym, ap, subst, ◌∙◌, arith, Bool, true, false, ◌&&◌, of_z, Result, Ok, Err, OnErr, IsTrue, ◌↔◌, ◌<ℤ◌, ◌∷◌}
use Rattle.std.specs.Int.{bytes_high_first}
use mir.Val.{SFits}
use Rattle.asn1_number.specs.Octets as S
use Rattle.asn1_number.specs.Readings.{FitsI128}
use Rattle.asn1_number.specs.Laws.OctetLaws.{unsigned-cons, signed_low}
use Rattle.asn1_number.specs.Laws.WidthLaws.{unsigned-bytes, fits_by_parts}
use Rattle.asn1_number.specs.declared.error.IntegerError.{IntegerError}
use Rattle.std.proofs.Math.Nat.{mod-eq_of_lt, pow-le-pow_right, one-le-pow, pow-suc, suc-mul}
use Rattle.std.proofs.lemmas.Nat.{mod-mul-add, pow-add}
use Rattle.std.proofs.lemmas.Int.{ints}
use Rattle.std.proofs.lemmas.Bool.{cond-true, cond-false, lt-ltb, le-ltb, le-leb, lt-leb}
use Rattle.std.specs.Int.{w128}
use lib.Dec.{ltb, leb}
use borrow.Author.Differences.{up, down, le_out, lt_out, neg_is, at_most_in, below_in}
use Rattle.asn1_number.specs.Readings.{IntegerKind, IsInRange, SignedOf}
use Rattle.asn1_integer.specs.Calls.{WantsMemory}
use Rattle.asn1_integer.specs.NativeBits.{native_kind, wrapped_bits, IsNativeSize, AreBitsOf}

-- the two halves of a type's bits
pub halves : (size : ℕ) → 1 ≤ size → 2 ^ (8 * size) ≡ 2 * 2 ^ (8 * size - 1)
halves size p =
    let e : 8 * size ≡ suc (8 * size - 1) = omega arith in
    let s = pow-suc 2 (8 * size - 1) in
    ap (λ (k : ℕ). 2 ^ k) e ∙ omega arith

below_half : (size m : ℕ) → IsInRange (SignedOf size) (pos m) → m < 2 ^ (8 * size - 1)
below_half size m r = omega (arith, lt_out (pos m) (pos (2 ^ (8 * size - 1))) r.1)

pub above_half : (size m : ℕ) → IsInRange (SignedOf size) (negsuc m) → suc m ≤ 2 ^ (8 * size - 1)
above_half size m r =
    omega (arith, le_out (neg_ℤ (pos (2 ^ (8 * size - 1)))) (negsuc m) r.0, neg_is (pos (2 ^ (8 * size - 1))))

-- half of the numbers of a width are at most half of those of a larger one
pub half_within : (width most : ℕ) → width ≤ most + 1 → 2 ^ (width - 1) ≤ 2 ^ most
half_within width most few = pow-le-pow_right {n = 2} (omega arith) {i = width - 1} {j = most} (omega arith)

pub half_fits : (size : ℕ) → IsNativeSize size → 2 ^ (8 * size - 1) ≤ 2 ^ 127
half_fits size s = half_within (8 * size) 127 (omega arith)

less_one : (q p : ℕ) → 1 ≤ q → (q - 1) * p + p ≡ q * p
less_one zero p h = absurd (omega arith)
less_one (suc k) p h = let e : suc k - 1 ≡ k = omega arith in ap (λ x. x * p + p) e ∙ sym (suc-mul k p)

-- a number that the type holds is the one that it has at its low bits
pub wrapped_bits_back : (signed : Bool) (size : ℕ) (n : ℤ) → IsNativeSize size → IsInRange (native_kind signed size) n
    → wrapped_bits signed size (of_z w128 n) ≡ n
wrapped_bits_back false size (pos m) s r =
    ap pos (mod-eq_of_lt (omega (arith, lt_out (pos m) (pos (2 ^ (8 * size))) r.1)))
wrapped_bits_back false size (negsuc m) s r = absurd (omega (arith, le_out (pos 0) (negsuc m) r.0))
wrapped_bits_back true size (pos m) s r =
    let h = below_half size m r in
    let p = halves size s.0 in
    let e : m % 2 ^ (8 * size) ≡ m = mod-eq_of_lt (omega arith) in
    cond-true (ltb (m % 2 ^ (8 * size)) (2 ^ (8 * size - 1))) _ _ (lt-ltb _ _ (omega arith)) ∙ ap pos e
wrapped_bits_back true size (negsuc m) s r =
    let h = above_half size m r in
    let p = halves size s.0 in
    let q : 2 ^ (8 * size + (128 - 8 * size)) ≡ 2 ^ (8 * size) * 2 ^ (128 - 8 * size) =
    pow-add 2 (8 * size) (128 - 8 * size) in
    let w : 2 ^ (8 * size + (128 - 8 * size)) ≡ 2 ^ 128 =
    ap (λ (k : ℕ). 2 ^ k) (let e : 8 * size + (128 - 8 * size) ≡ 128 = omega arith in e) in
    let one : 1 ≤ 2 ^ (128 - 8 * size) = one-le-pow (128 - 8 * size) 2 (omega arith) in
    let t : (2 ^ (128 - 8 * size) - 1) * 2 ^ (8 * size) + 2 ^ (8 * size) ≡ 2 ^ 128 =
    less_one (2 ^ (128 - 8 * size)) (2 ^ (8 * size)) one ∙ (omega (arith, q) ∙ w) in
    let e : (2 ^ 128 - suc m) % 2 ^ (8 * size) ≡ 2 ^ (8 * size) - suc m =
    ap (λ x. x % 2 ^ (8 * size)) (let f : 2 ^ 128 - suc m ≡ (2 ^ (128 - 8 * size) - 1) * 2 ^ (8 * size) +
    (2 ^ (8 * size) - suc m) = omega arith in f)
    ∙ mod-mul-add (2 ^ (128 - 8 * size) - 1) (2 ^ (8 * size)) (2 ^ (8 * size) - suc m) (omega arith) in
    cond-false (ltb ((2 ^ 128 - suc m) % 2 ^ (8 * size)) (2 ^ (8 * size - 1))) _ _ (le-ltb _ _ (omega arith))
    ∙ (ap (λ x. pos x -ℤ pos (2 ^ (8 * size))) e ∙ omega (arith, ints))

pub behind_zero : (k bits : ℕ) → bits < 256 ^ k → S.signed (0 ∷ bytes_high_first k bits) ≡ pos bits
behind_zero k bits h =
    signed_low 0 (bytes_high_first k bits) (omega arith)
    ∙ ap pos (unsigned-cons 0 (bytes_high_first k bits) ∙ omega (arith, unsigned-bytes k bits h))

-- its low bits are those of a number of 128 bits
pub bits_of_native : (signed : Bool) (size bits : ℕ) (n : ℤ) → IsNativeSize size → IsInRange (native_kind signed size) n
    → bits ≡ of_z w128 n → AreBitsOf signed n bits
bits_of_native false size bits (pos m) s r e = ap pos (sym e)
bits_of_native false size bits (negsuc m) s r e = absurd (omega (arith, le_out (pos 0) (negsuc m) r.0))
bits_of_native true size bits (pos m) s r e =
    let h = below_half size m r in
    let f = half_fits size s in
    ((at_most_in (neg_ℤ (pos (2 ^ 127))) (pos m) (omega arith), below_in (pos m) (pos (2 ^ 127)) (omega arith)), e)
bits_of_native true size bits (negsuc m) s r e =
    let h = above_half size m r in
    let f = half_fits size s in (
      (at_most_in (neg_ℤ (pos (2 ^ 127))) (negsuc m) (omega arith), below_in (negsuc m) (pos (2 ^ 127)) (omega arith)),
      e,
    )

-- a type's number from the bits that were read
pub read_back : (signed : Bool) (size bits : ℕ) (n v : ℤ) (reading : Result ℤ IntegerError) → IsNativeSize size
    → reading ≡ Ok n → bits ≡ of_z w128 n →
    IsInRange (native_kind signed size) n → v ≡ wrapped_bits signed size bits → reading ≡ Ok v
read_back signed size bits n v reading s e b r w = e
    ∙ ap Ok (sym (wrapped_bits_back signed size n s r) ∙ (ap (wrapped_bits signed size) (sym b) ∙ sym w))

-- the same, where the code was handed the type's sign and size
pub read_back_at : (f : IntegerKind → Result ℤ IntegerError) (a signed : Bool) (b size bits : ℕ) (v : ℤ) → a ≡ signed
    → b ≡ size → IsNativeSize size →
    ((x : ℤ) × (f (native_kind a b) ≡ Ok x) × (bits ≡ of_z w128 x) × IsInRange (native_kind a b) x)
    → v ≡ wrapped_bits signed size bits → f (native_kind signed size) ≡ Ok v
read_back_at f a signed b size bits v p q s r w =
    let k : native_kind a b ≡ native_kind signed size = ap (λ x. native_kind x b) p ∙ ap (native_kind signed) q in
    let Read : IntegerKind → Type 0 = λ k. (x : ℤ) × (f k ≡ Ok x) × (bits ≡ of_z w128 x) × IsInRange k x in
    let t = subst Read k r in
    read_back signed size bits t.0 v (f (native_kind signed size)) s t.1 t.2 t.3 w

-- a number within `i128` has its bits there
pub fits_signed : (n : ℤ) → FitsI128 n → SFits w128 n
fits_signed (pos m) r = fits_by_parts (pos m) (omega (arith, lt_out (pos m) (pos (2 ^ 127)) r.1)) (omega arith)
fits_signed (negsuc m) r =
    fits_by_parts (negsuc m) (omega arith) (omega (arith, le_out (neg_ℤ (pos (2 ^ 127))) (negsuc m) r.0))

-- the number is negative where its signed type has bit 128 set
pub below_zero_by_bits : (signed : Bool) (n : ℤ) (bits : ℕ) → AreBitsOf signed n bits
    → IsTrue (signed && leb (2 ^ 127) bits) ↔ (n <ℤ pos 0)
below_zero_by_bits false n bits b = (λ t. cc, λ l. absurd (omega (arith, lt_out n (pos 0) l, ap up b, ap down b)))
below_zero_by_bits true (pos m) bits b =
    let small : m < 2 ^ 127 = omega (arith, lt_out (pos m) (pos (2 ^ 127)) b.0.1) in
    let e : bits ≡ m = b.1 in (
      λ t. let f : leb (2 ^ 127) bits ≡ false =
          lt-leb (2 ^ 127) bits (omega arith) in cc,
      λ l. absurd (omega (arith, lt_out (pos m) (pos 0) l)),
    )
below_zero_by_bits true (negsuc m) bits b =
    let small : suc m ≤ 2 ^ 127 = omega (arith, le_out (neg_ℤ (pos (2 ^ 127))) (negsuc m) b.0.0) in
    let e : bits ≡ 2 ^ 128 - suc m = b.1 in
    (λ t. below_in (negsuc m) (pos 0) (omega arith), λ l. le-leb (2 ^ 127) bits (omega arith))

-- the bits of a native number, where the code was handed the type's sign
pub bits_at : (a signed : Bool) (size bits : ℕ) (n : ℤ) → a ≡ signed → IsNativeSize size
    → IsInRange (native_kind signed size) n → bits ≡ of_z w128 n → AreBitsOf a n bits
bits_at a signed size bits n e s r b = subst (λ t. AreBitsOf t n bits) (sym e) (bits_of_native signed size bits n s r b)

-- a number outside `i128` is of an unsigned type, and its bits are the number
pub great_is_unsigned : (a : Bool) (n : ℤ) (bits : ℕ) → AreBitsOf a n bits → (FitsI128 n → ⊥) → pos bits ≡ n
great_is_unsigned true n bits b d = absurd (d b.0)
great_is_unsigned false n bits b d = sym b

pub great_wants_memory : (signed : Bool) (size : ℕ) (n : ℤ) (bits : ℕ) → AreBitsOf signed n bits → (FitsI128 n → ⊥)
    → 2 ^ 127 ≤ bits → WantsMemory (native_kind signed size) n
great_wants_memory true size n bits b d l = d b.0
great_wants_memory false size n bits b d l =
    subst (λ z. pos (2 ^ 127) ≤ℤ z) (sym b) (at_most_in (pos (2 ^ 127)) (pos bits) (omega arith))

pub on_err : {T E : Type 0} (r : Result T E) (P Q : Type 0) → (P → Q) → OnErr r P → OnErr r Q
on_err (Ok x) P Q f h = h
on_err (Err e) P Q f h = f h

-- an `i128` is within `i128`
pub fitted : (n : ℤ) → SFits w128 n → FitsI128 n
fitted (pos m) f = let b : m < 2 ^ 127 =
    f.sfits in (
      at_most_in (neg_ℤ (pos (2 ^ 127))) (pos m) (omega arith),
      below_in (pos m) (pos (2 ^ 127))
          (omega arith),
    )
fitted (negsuc m) f = let b : m < 2 ^ 127 =
    f.sfits in (
      at_most_in (neg_ℤ (pos (2 ^ 127))) (negsuc m) (omega arith),
      below_in (negsuc m) (pos (2 ^ 127))
          (omega arith),
    )

-- a native number that was made of an `i128` of its range is that `i128`
pub same_number : (signed : Bool) (size bits : ℕ) (n v : ℤ) → IsNativeSize size → bits ≡ of_z w128 n
    → v ≡ wrapped_bits signed size bits → IsInRange (native_kind signed size) n → v ≡ n
same_number signed size bits n v s b w r = w ∙ (ap (wrapped_bits signed size) b ∙ wrapped_bits_back signed size n s r)

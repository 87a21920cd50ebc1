-- The cases of the table of readings.
use Rattle.std.proofs.Common.{◌≡◌, ℕ, zero, suc, ◌-◌, ◌*◌, ◌^◌, ◌<◌, ◌≤◌, ℤ, pos, neg_ℤ, List, [], ◌∷◌, length, get_or, drop, refl, sym, ap, subst, ◌∙◌, arith, ⊎_elim, Ok, Err, ◌≢◌, IfOk, IfErr, Result}
use Rattle.std.proofs.Math.Nat.{pow-le-pow_right}
use Rattle.std.proofs.lemmas.Bool.{cond-true, cond-false, lt-ltb, le-leb, lt-leb, eq-eqb, ne_eqb, cases_eq}
use lib.Dec.{ltb, leb, eqb}
use borrow.Author.Differences.{neg_is, at_most_in, below_in}
use Rattle.asn1_number.specs.declared.error.IntegerError.TheVariants.{UnexpectedEmptyInput, Overflow, TypeConversionFailed, Memory}
use Rattle.asn1_number.specs.declared.error.IntegerError.{IntegerError}
use Rattle.asn1_number.specs.Octets.{IsOctets, unsigned, signed}
use Rattle.asn1_number.specs.Readings.{IntegerKind, SignedOf, UnsignedOf, Unbounded, IsInRange, signed_reading, unsigned_reading, counted_length, FitsI128, Answers}
use Rattle.asn1_number.specs.Laws.OctetLaws.{signed_low, signed_range, unsigned-zero_first, unsigned_below}
use Rattle.asn1_number.specs.Laws.ReadingLaws.{power_of_bits, half_of_bits, signed_is_read, unsigned_is_read}

pub reading_empty : (kind : IntegerKind) (o : List ℕ) → length o ≡ 0 → signed_reading kind o ≡ Err UnexpectedEmptyInput
unfolding signed_reading
reading_empty kind [] e = refl
reading_empty kind (b ∷ bs) e = absurd (omega arith)

pub signed_too_long : (size b : ℕ) (bs : List ℕ) → size < length (b ∷ bs)
    → signed_reading (SignedOf size) (b ∷ bs) ≡ Err (Overflow (8 * size))
unfolding signed_reading
signed_too_long size b bs h = cond-true (ltb size (length (b ∷ bs))) _ _ (lt-ltb _ _ h)

pub unsigned_below_zero : (size b : ℕ) (bs : List ℕ) → 128 ≤ b
    → signed_reading (UnsignedOf size) (b ∷ bs) ≡ Err (TypeConversionFailed (8 * size))
unfolding signed_reading
unsigned_below_zero size b bs h = cond-true (leb 128 b) _ _ (le-leb 128 b h)

pub unsigned_too_long : (size b : ℕ) (bs : List ℕ) → b < 128 → size < counted_length (b ∷ bs)
    → signed_reading (UnsignedOf size) (b ∷ bs) ≡ Err (Overflow (8 * size))
unfolding signed_reading
unsigned_too_long size b bs h l = cond-false (leb 128 b) _ _ (lt-leb 128 b h)
    ∙ cond-true (ltb size (counted_length (b ∷ bs))) _ _ (lt-ltb _ _ l)

pub signed_too_long_at : (size : ℕ) (o : List ℕ) → 0 < length o → size < length o
    → signed_reading (SignedOf size) o ≡ Err (Overflow (8 * size))
signed_too_long_at size [] some l = absurd (omega arith)
signed_too_long_at size (b ∷ bs) some l = signed_too_long size b bs l

pub signed_is_read_at : (size : ℕ) (o : List ℕ) → 0 < length o → length o ≤ size
    → signed_reading (SignedOf size) o ≡ Ok (signed o)
signed_is_read_at size [] some l = absurd (omega arith)
signed_is_read_at size (b ∷ bs) some l = signed_is_read size b bs l

pub unsigned_below_zero_at : (size : ℕ) (o : List ℕ) → 0 < length o → 128 ≤ get_or o 0 0
    → signed_reading (UnsignedOf size) o ≡ Err (TypeConversionFailed (8 * size))
unsigned_below_zero_at size [] some l = absurd (omega arith)
unsigned_below_zero_at size (b ∷ bs) some l = unsigned_below_zero size b bs l

pub unsigned_too_long_at : (size : ℕ) (o : List ℕ) → 0 < length o → get_or o 0 0 < 128 → size < counted_length o
    → signed_reading (UnsignedOf size) o ≡ Err (Overflow (8 * size))
unsigned_too_long_at size [] some l k = absurd (omega arith)
unsigned_too_long_at size (b ∷ bs) some l k = unsigned_too_long size b bs l k

-- what an unsigned type reads is the positional sum
pub unsigned_is_read_at : (size : ℕ) (o : List ℕ) → 0 < length o → get_or o 0 0 < 128 → counted_length o ≤ size
    → signed_reading (UnsignedOf size) o ≡ Ok (pos (unsigned o))
unsigned_is_read_at size [] some l k = absurd (omega arith)
unsigned_is_read_at size (b ∷ bs) some l k = unsigned_is_read size b bs l k ∙ ap Ok (signed_low b bs l)

pub signed_in_range : (size : ℕ) (o : List ℕ) → IsOctets o → 0 < length o → length o ≤ size
    → IsInRange (SignedOf size) (signed o)
signed_in_range size [] h some l = absurd (omega arith)
signed_in_range zero (b ∷ bs) h some l = absurd (omega arith)
signed_in_range (suc k) (b ∷ bs) h some l =
    let r = signed_range b bs h in
    let q : 256 ^ length bs ≤ 256 ^ k = pow-le-pow_right (omega arith) {i = length bs} {j = k} (omega arith) in
    let e = half_of_bits k in
    let m = neg_is (pos (2 ^ (8 * suc k - 1))) in (
      at_most_in (neg_ℤ (pos (2 ^ (8 * suc k - 1)))) (signed (b ∷ bs)) (omega arith),
      below_in (signed (b ∷ bs))
          (pos (2 ^ (8 * suc k - 1))) (omega arith),
    )

pub unsigned_in_range : (size : ℕ) (o : List ℕ) → IsOctets o → length o ≤ size
    → IsInRange (UnsignedOf size) (pos (unsigned o))
unsigned_in_range size o h l =
    let w = unsigned_below o h in
    let q : 256 ^ length o ≤ 256 ^ size = pow-le-pow_right (omega arith) {i = length o} {j = size} (omega arith) in
    let e = power_of_bits size in (
      at_most_in (pos 0) (pos (unsigned o)) (omega arith),
      below_in (pos (unsigned o)) (pos (2 ^ (8 * size)))
          (omega arith),
    )

pub counted_after_zero : (o : List ℕ) → 0 < length o → get_or o 0 0 ≡ 0 → (length (drop 1 o) ≡ counted_length o)
    × (unsigned (drop 1 o) ≡ unsigned o)
counted_after_zero [] some z = absurd (omega arith)
counted_after_zero (b ∷ bs) some z = (
  sym (cond-true (eqb b 0) (length bs) (length (b ∷ bs)) (eq-eqb b 0 z)),
  sym
      (ap (λ x. unsigned (x ∷ bs)) z ∙ unsigned-zero_first bs),
)

pub counted_whole : (o : List ℕ) → (0 < length o → get_or o 0 0 ≡ 0 → ⊥) → length o ≡ counted_length o
counted_whole [] d = refl
counted_whole (b ∷ bs) d =
    sym (cond-false (eqb b 0) (length bs) (length (b ∷ bs)) (ne_eqb b 0 (λ e. d (omega arith) e)))

-- a number whose octets fit the type, one first zero octet not counted, is of the type
pub counted_in_range : (size : ℕ) (o : List ℕ) → IsOctets o → counted_length o ≤ size
    → IsInRange (UnsignedOf size) (pos (unsigned o))
counted_in_range size [] h l = unsigned_in_range size [] h (omega arith)
counted_in_range size (b ∷ bs) h l =
    ⊎_elim
    (λ z.
    let e = counted_after_zero (b ∷ bs) (omega arith) z in
    let k : length bs ≤ size = subst (λ x. x ≤ size) (sym e.0) l in
    subst (λ x. IsInRange (UnsignedOf size) (pos x)) e.1 (unsigned_in_range size bs h.1 k))
    (λ z. unsigned_in_range size (b ∷ bs) h (subst (λ x. x ≤ size) (sym (counted_whole (b ∷ bs) (λ _ y. z y))) l))
    (cases_eq b 0)

-- ---- `Integer`

pub answers_signed : (o : List ℕ) (r : Result ℤ IntegerError) → (o ≡ [] → r ≡ Err UnexpectedEmptyInput)
    → IfOk r (λ n. n ≡ signed o) →
    (o ≢ [] → IfErr r (λ e. (e ≡ Memory) × ¬ (FitsI128 (signed o))))
    → Answers Unbounded (λ n. n) r (signed_reading Unbounded o)
unfolding signed_reading
answers_signed [] r empty value memory =
    subst (λ t. Answers Unbounded (λ n. n) t (Err UnexpectedEmptyInput)) (sym (empty refl)) refl
answers_signed (b ∷ bs) (Ok n) empty value memory = ap Ok (sym value)
answers_signed (b ∷ bs) (Err UnexpectedEmptyInput) empty value memory =
    absurd (let m = (memory (λ e. omega (arith, ap length e))).0 in cc)
answers_signed (b ∷ bs) (Err (Overflow w)) empty value memory =
    absurd (let m = (memory (λ e. omega (arith, ap length e))).0 in cc)
answers_signed (b ∷ bs) (Err (TypeConversionFailed w)) empty value memory =
    absurd (let m = (memory (λ e. omega (arith, ap length e))).0 in cc)
answers_signed (b ∷ bs) (Err Memory) empty value memory = (memory (λ e. omega (arith, ap length e))).1

pub answers_unsigned : (o : List ℕ) (r : Result ℤ IntegerError) → (o ≡ [] → r ≡ Err UnexpectedEmptyInput)
    → IfOk r (λ n. n ≡ pos (unsigned o)) →
    (o ≢ [] → IfErr r (λ e. (e ≡ Memory) × ¬ (FitsI128 (pos (unsigned o)))))
    → Answers Unbounded (λ n. n) r (unsigned_reading Unbounded o)
unfolding unsigned_reading
answers_unsigned [] r empty value memory =
    subst (λ t. Answers Unbounded (λ n. n) t (Err UnexpectedEmptyInput)) (sym (empty refl)) refl
answers_unsigned (b ∷ bs) (Ok n) empty value memory = ap Ok (sym value)
answers_unsigned (b ∷ bs) (Err UnexpectedEmptyInput) empty value memory =
    absurd (let m = (memory (λ e. omega (arith, ap length e))).0 in cc)
answers_unsigned (b ∷ bs) (Err (Overflow w)) empty value memory =
    absurd (let m = (memory (λ e. omega (arith, ap length e))).0 in cc)
answers_unsigned (b ∷ bs) (Err (TypeConversionFailed w)) empty value memory =
    absurd (let m = (memory (λ e. omega (arith, ap length e))).0 in cc)
answers_unsigned (b ∷ bs) (Err Memory) empty value memory = (memory (λ e. omega (arith, ap length e))).1

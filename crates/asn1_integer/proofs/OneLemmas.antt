-- A number wraps to one number of a type, and has one residue.
use Rattle.std.proofs.Common.{◌≡◌, ℕ, suc, ◌+◌, ◌-◌, ◌*◌, ◌^◌, ◌<◌, ◌≤◌, ℤ, pos, ◌+ℤ◌, ◌*ℤ◌, neg_ℤ, ap, arith, ⊎_elim}
use Rattle.std.proofs.Math.Nat.{suc-mul, mul-le-mul_right}
use Rattle.std.proofs.lemmas.Bool.{cases_lt}
use borrow.Author.Differences.{up, down, le_out, lt_out, neg_is, sum_is_lem, product_is, same_in}
use Rattle.asn1_number.specs.Readings.{SignedOf, UnsignedOf}
use Rattle.asn1_integer.specs.Wrapping.{WrapsToOne, HasOneResidue}
use Rattle.asn1_integer.proofs.NativeLemmas.{halves}

-- less than the modulus apart, and by a multiple of it: equal
same_place : (m x y i j : ℕ) → x + i * m ≡ y + j * m → x < y + m → y < x + m → x ≡ y
same_place m x y i j e l k =
    ⊎_elim
    (λ b. absurd (let p : suc i * m ≤ j * m = mul-le-mul_right m b in omega (arith, suc-mul i m)))
    (λ b. ⊎_elim
    (λ d. absurd (let p : suc j * m ≤ i * m = mul-le-mul_right m d in omega (arith, suc-mul j m)))
    (λ d. let f : i ≡ j = omega arith in let q : i * m ≡ j * m = ap (λ z. z * m) f in omega arith)
    (cases_lt j i))
    (cases_lt i j)

one_apart : (m : ℕ) (n a b k j : ℤ) → n ≡ a +ℤ k *ℤ pos m → n ≡ b +ℤ j *ℤ pos m → up a + down b < up b + down a + m
    → up b + down a < up a + down b + m → a ≡ b
one_apart m n a b k j e f l h =
    let s = sum_is_lem a (k *ℤ pos m) in
    let t = sum_is_lem b (j *ℤ pos m) in
    let p = product_is k (pos m) in
    let q = product_is j (pos m) in
    let eu : up n ≡ up (a +ℤ k *ℤ pos m) = ap up e in
    let ed : down n ≡ down (a +ℤ k *ℤ pos m) = ap down e in
    let fu : up n ≡ up (b +ℤ j *ℤ pos m) = ap up f in
    let fd : down n ≡ down (b +ℤ j *ℤ pos m) = ap down f in
    same_in a b (same_place m (up a + down b) (up b + down a) (up k + down j) (down k + up j) (omega arith) l h)

pub signed_wraps_to_one : WrapsToOne SignedOf
signed_wraps_to_one size n a b p v w =
    let h = halves size p in
    let m = neg_is (pos (2 ^ (8 * size - 1))) in
    let al = le_out (neg_ℤ (pos (2 ^ (8 * size - 1)))) a v.0.0 in
    let ah = lt_out a (pos (2 ^ (8 * size - 1))) v.0.1 in
    let bl = le_out (neg_ℤ (pos (2 ^ (8 * size - 1)))) b w.0.0 in
    let bh = lt_out b (pos (2 ^ (8 * size - 1))) w.0.1 in
    one_apart (2 ^ (8 * size)) n a b v.1.0 w.1.0 v.1.1 w.1.1 (omega arith) (omega arith)

pub unsigned_wraps_to_one : WrapsToOne UnsignedOf
unsigned_wraps_to_one size n a b p v w =
    let al = le_out (pos 0) a v.0.0 in
    let ah = lt_out a (pos (2 ^ (8 * size))) v.0.1 in
    let bl = le_out (pos 0) b w.0.0 in
    let bh = lt_out b (pos (2 ^ (8 * size))) w.0.1 in
    one_apart (2 ^ (8 * size)) n a b v.1.0 w.1.0 v.1.1 w.1.1 (omega arith) (omega arith)

pub signed_has_one_residue : HasOneResidue SignedOf
signed_has_one_residue size n r s v w =
    ap up (one_apart (2 ^ (8 * size)) n (pos r) (pos s) v.1.0 w.1.0 v.1.1 w.1.1 (omega (arith, v.0))
    (omega (arith, w.0)))

pub unsigned_has_one_residue : HasOneResidue UnsignedOf
unsigned_has_one_residue size n r s v w =
    ap up (one_apart (2 ^ (8 * size)) n (pos r) (pos s) v.1.0 w.1.0 v.1.1 w.1.1 (omega (arith, v.0))
    (omega (arith, w.0)))

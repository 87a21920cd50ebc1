-- Lemmas on sums that wrap.
use Rattle.std.proofs.Common.{◌≡◌, ℕ, ◌+◌, ◌-◌, ◌*◌, ◌/◌, ◌%◌, ◌^◌, ◌<◌, ◌≤◌, ℤ, pos, negsuc, ◌+ℤ◌, ◌-ℤ◌, ◌*ℤ◌, neg_ℤ, sym, ap, subst, ◌∙◌, arith, ⊎_elim, Bool, true, false, of_z, cond, List, [], ◌∷◌, length, Result, Ok, Err, Some}
use Rattle.std.proofs.Math.Nat.{div-add-mod', mod-lt}
use Rattle.std.proofs.lemmas.Nat.{pow-add, pow_pos}
use Rattle.std.proofs.lemmas.Bool.{cond-true, cond-false, lt-ltb, le-ltb, cases_lt}
use Rattle.std.specs.Int.{w128}
use lib.Dec.{ltb, leb}
use Rattle.asn1_number.specs.declared.error.IntegerError.{IntegerError}
use Rattle.asn1_number.specs.declared.error.IntegerError.TheVariants.{UnexpectedEmptyInput, Overflow, TypeConversionFailed, Memory}
use Rattle.asn1_number.specs.Octets.{signed, IsShortest, IsShortestUnsigned}
use Rattle.asn1_integer.specs.Laws.NativeLaws.{native_reads_shortest}
use borrow.Author.Differences.{up, down, le_out, neg_is, sum_is_lem, product_is, same_in, at_most_in, below_in}
use Rattle.asn1_number.specs.Readings.{IntegerKind, IsInRange, SignedOf, UnsignedOf, Unbounded, signed_reading, counted_length}
use Rattle.asn1_number.specs.Laws.OctetLaws.{one_part}
use Rattle.asn1_integer.specs.NativeBits.{native_kind, wrapped_bits, IsNativeSize, ReadsBits}
use Rattle.asn1_integer.specs.Wrapping.{IsWrapped, IsResidue, DifferByMultiple}
use Rattle.asn1_integer.specs.Calls.{WrapsSum, IsInReach, SpellsUnsigned}
use Rattle.asn1_integer.proofs.NativeLemmas.{halves, half_fits, above_half, wrapped_bits_back}

apart_by : (bits : ℕ) (n m : ℤ) (i j : ℕ) → up n + down m + i * 2 ^ bits ≡ up m + down n + j * 2 ^ bits
    → DifferByMultiple (2 ^ bits) n m
apart_by bits n m i j e =
    let k = pos j -ℤ pos i in
    let s = sum_is_lem (pos j) (neg_ℤ (pos i)) in
    let t = neg_is (pos i) in
    let u : up (pos j -ℤ pos i) + i ≡ down (pos j -ℤ pos i) + j = omega arith in
    let v : (up (pos j -ℤ pos i) + i) * 2 ^ bits ≡ (down (pos j -ℤ pos i) + j) * 2 ^ bits = ap (λ x. x * 2 ^ bits) u in
    let p = product_is (pos j -ℤ pos i) (pos (2 ^ bits)) in
    let q = sum_is_lem m ((pos j -ℤ pos i) *ℤ pos (2 ^ bits)) in
    (pos j -ℤ pos i, same_in n (m +ℤ (pos j -ℤ pos i) *ℤ pos (2 ^ bits)) (omega arith))

-- the low bits of z differ from z by a multiple of 2 ^ 128
low_parts_of : (z : ℤ) → down z ≤ 2 ^ 128 → (e : ℕ) × (of_z w128 z + down z ≡ up z + e * 2 ^ 128)
low_parts_of (pos n) h = (0, omega arith)
low_parts_of (negsuc n) h = (1, omega arith)

-- the value at low bits differs from them by a multiple of 2 to the type's bits
value_parts : (signed : Bool) (size n : ℕ) → 1 ≤ size →
    IsInRange (native_kind signed size) (wrapped_bits signed size n) ×
    ((t : ℕ)
    × (n % 2 ^ (8 * size) + down (wrapped_bits signed size n) ≡ up (wrapped_bits signed size n) + t * 2 ^
    (8 * size)))
value_parts false size n p =
    let r = mod-lt n {m = 2 ^ (8 * size)} (pow_pos (8 * size)) in (
      (
        at_most_in (pos 0) (pos (n % 2 ^ (8 * size))) (omega arith),
        below_in (pos (n % 2 ^ (8 * size)))
            (pos (2 ^ (8 * size))) (omega arith),
      ),
      (0, omega arith),
    )
value_parts true size n p = ⊎_elim low high (cases_lt (n % 2 ^ (8 * size)) (2 ^ (8 * size - 1)))
  where
    Parts : ℤ → Type 0
    Parts v = IsInRange (SignedOf size) v × ((t : ℕ) × (n % 2 ^ (8 * size) + down v ≡ up v + t * 2 ^ (8 * size)))

    h : 2 ^ (8 * size) ≡ 2 * 2 ^ (8 * size - 1)
    h = halves size p

    m : (up (neg_ℤ (pos (2 ^ (8 * size - 1)))) ≡ 0) × (down (neg_ℤ (pos (2 ^ (8 * size - 1)))) ≡ 2 ^ (8 * size - 1))
    m = neg_is (pos (2 ^ (8 * size - 1)))

    low : n % 2 ^ (8 * size) < 2 ^ (8 * size - 1) → Parts (wrapped_bits true size n)
    low l = subst Parts (sym (cond-true (ltb (n % 2 ^ (8 * size)) (2 ^ (8 * size - 1))) _ _ (lt-ltb _ _ l))) (
      (
        at_most_in (neg_ℤ (pos (2 ^ (8 * size - 1)))) (pos (n % 2 ^ (8 * size))) (omega (arith, m)),
        below_in
            (pos (n % 2 ^ (8 * size))) (pos (2 ^ (8 * size - 1))) (omega arith),
      ),
      (0, omega arith),
    )

    high : 2 ^ (8 * size - 1) ≤ n % 2 ^ (8 * size) → Parts (wrapped_bits true size n)
    high l =
        let r = mod-lt n {m = 2 ^ (8 * size)} (pow_pos (8 * size)) in
        let s = sum_is_lem (pos (n % 2 ^ (8 * size))) (neg_ℤ (pos (2 ^ (8 * size)))) in
        let t = neg_is (pos (2 ^ (8 * size))) in
        let v = pos (n % 2 ^ (8 * size)) -ℤ pos (2 ^ (8 * size)) in
        let one = one_part (pos (n % 2 ^ (8 * size)) -ℤ pos (2 ^ (8 * size))) in
        let z : up (pos (n % 2 ^ (8 * size)) -ℤ pos (2 ^ (8 * size))) ≡ 0 =
        ⊎_elim (λ e. e) (λ e. absurd (omega arith)) one in
        subst Parts (sym (cond-false (ltb (n % 2 ^ (8 * size)) (2 ^ (8 * size - 1))) _ _ (le-ltb _ _ l))) (
          (
            at_most_in (neg_ℤ (pos (2 ^ (8 * size - 1)))) (pos (n % 2 ^ (8 * size)) -ℤ pos (2 ^ (8 * size)))
                (omega (arith, m, h)),
            below_in (pos (n % 2 ^ (8 * size)) -ℤ pos (2 ^ (8 * size)))
                (pos (2 ^ (8 * size - 1))) (omega (arith, h)),
          ),
          (1, omega arith),
        )

-- the value at the sum's low bits is the sum, wrapped
pub sum_is_wrapped : (signed : Bool) (size : ℕ) (a b : ℤ) → IsNativeSize size → down a ≤ 2 ^ 128 → down b ≤ 2 ^ 128 →
    IsWrapped (native_kind signed size) (a +ℤ b) (wrapped_bits signed size ((of_z w128 a + of_z w128 b) % 2 ^ 128))
sum_is_wrapped signed size a b s h k =
    in_kind signed (wrapped_bits signed size ((of_z w128 a + of_z w128 b) % 2 ^ 128)) (a +ℤ b) value.0 alike
  where
    sum : ℕ
    sum = of_z w128 a + of_z w128 b

    value : IsInRange (native_kind signed size) (wrapped_bits signed size ((of_z w128 a + of_z w128 b) % 2 ^ 128)) ×
        ((t : ℕ)
        × ((of_z w128 a + of_z w128 b) % 2 ^ 128 % 2 ^ (8 * size) + down
        (wrapped_bits signed size ((of_z w128 a + of_z w128 b) % 2 ^ 128)) ≡ up
        (wrapped_bits signed size ((of_z w128 a + of_z w128 b) % 2 ^ 128)) + t * 2 ^ (8 * size)))
    value = value_parts signed size ((of_z w128 a + of_z w128 b) % 2 ^ 128) s.0

    alike : DifferByMultiple (2 ^ (8 * size)) (a +ℤ b)
        (wrapped_bits signed size ((of_z w128 a + of_z w128 b) % 2 ^ 128))
    alike =
        let ea = low_parts_of a h in
        let eb = low_parts_of b k in
        let q = 2 ^ (128 - 8 * size) in
        let x : 8 * size + (128 - 8 * size) ≡ 128 = omega (arith, s) in
        let w : 2 ^ 128 ≡ 2 ^ (8 * size) * 2 ^ (128 - 8 * size) = ap (λ (k : ℕ). 2 ^ k) (sym x)
        ∙ pow-add 2 (8 * size) (128 - 8 * size) in
        let d1 = div-add-mod' (of_z w128 a + of_z w128 b) (2 ^ 128) in
        let d2 = div-add-mod' ((of_z w128 a + of_z w128 b) % 2 ^ 128) (2 ^ (8 * size)) in
        let t = sum_is_lem a b in
        let wa : ea.0 * 2 ^ 128 ≡ ea.0 * (2 ^ (8 * size) * 2 ^ (128 - 8 * size)) = ap (λ y. ea.0 * y) w in
        let wb : eb.0 * 2 ^ 128 ≡ eb.0 * (2 ^ (8 * size) * 2 ^ (128 - 8 * size)) = ap (λ y. eb.0 * y) w in
        let wd : (of_z w128 a + of_z w128 b) / 2 ^ 128 * 2 ^ 128 ≡ (of_z w128 a + of_z w128 b) / 2 ^ 128 *
        (2 ^ (8 * size) * 2 ^ (128 - 8 * size)) = ap (λ y. (of_z w128 a + of_z w128 b) / 2 ^ 128 * y) w in
        apart_by (8 * size) (a +ℤ b) (wrapped_bits signed size ((of_z w128 a + of_z w128 b) % 2 ^ 128))
        ((ea.0 + eb.0) * 2 ^ (128 - 8 * size))
        ((of_z w128 a + of_z w128 b) / 2 ^ 128 * 2 ^ (128 - 8 * size) + (of_z w128 a + of_z w128 b) % 2 ^ 128 / 2 ^
        (8 * size) + value.1.0)
        (omega (arith, value.1.1))

    in_kind : (signed' : Bool) (m n : ℤ) → IsInRange (native_kind signed' size) m
        → DifferByMultiple (2 ^ (8 * size)) n m → IsWrapped (native_kind signed' size) n m
    in_kind true m n r l = (r, l)
    in_kind false m n r l = (r, l)

pub down_fits : (signed : Bool) (size : ℕ) (z : ℤ) → IsNativeSize size → IsInRange (native_kind signed size) z
    → down z ≤ 2 ^ 128
down_fits true size (pos n) s r = omega arith
down_fits true size (negsuc n) s r = omega (arith, above_half size n r, half_fits size s)
down_fits false size (pos n) s r = omega arith
down_fits false size (negsuc n) s r = absurd (omega (arith, le_out (pos 0) (negsuc n) r.0))

pub wraps_some : {T : Type 0} (signed : Bool) (size : ℕ) (value : T → ℤ) (a b : ℤ) (x : T)
    → IsWrapped (native_kind signed size) (a +ℤ b) (value x) → WrapsSum (native_kind signed size) value a b (Some x)
wraps_some true size value a b x w = w
wraps_some false size value a b x w = w

-- ---- numbers that a type holds

guard_ok : (t : Bool) (e : IntegerError) (v x : ℤ) → cond t (Err e) (Ok v) ≡ Ok x → v ≡ x
guard_ok true e v x h = cc
guard_ok false e v x h = cc

guard_then : (t : Bool) (e : IntegerError) (r : Result ℤ IntegerError) (x : ℤ) → cond t (Err e) r ≡ Ok x → r ≡ Ok x
guard_then true e r x h = cc
guard_then false e r x h = h

pub reading_value : (kind : IntegerKind) (o : List ℕ) (x : ℤ) → signed_reading kind o ≡ Ok x → signed o ≡ x
unfolding signed_reading
reading_value kind [] x h = cc
reading_value (SignedOf size) (b ∷ bs) x h =
    guard_ok (ltb size (length (b ∷ bs))) (Overflow (8 * size)) (signed (b ∷ bs)) x h
reading_value (UnsignedOf size) (b ∷ bs) x h =
    guard_ok (ltb size (counted_length (b ∷ bs))) (Overflow (8 * size)) (signed (b ∷ bs)) x
    (guard_then (leb 128 b) (TypeConversionFailed (8 * size)) _ x h)
reading_value Unbounded (b ∷ bs) x h = cc

pub not_read : (kind : IntegerKind) (e : IntegerError) (reading : Result ℤ IntegerError) (n : ℤ)
    → ReadsBits kind (Err e) reading → reading ≡ Ok n → ⊥
not_read kind UnexpectedEmptyInput reading n h k = cc
not_read kind (Overflow bits) reading n h k = cc
not_read kind (TypeConversionFailed bits) reading n h k = cc
not_read kind Memory reading n h k = h

pub held_in_range : (signed : Bool) (size : ℕ) (n : ℤ) → IsInReach (native_kind signed size) n
    → IsInRange (native_kind signed size) n
held_in_range true size n h = h
held_in_range false size n h = h

pub in_range_held : (signed : Bool) (size : ℕ) (n : ℤ) → IsInRange (native_kind signed size) n
    → IsInReach (native_kind signed size) n
in_range_held true size n h = h
in_range_held false size n h = h

-- what was read from the shortest octets of a number is that number
pub read_from_shortest : (a signed : Bool) (b size bits : ℕ) (n v : ℤ) (o : List ℕ) → a ≡ signed → b ≡ size
    → IsNativeSize size → IsShortest n o →
    ((x : ℤ) × (signed_reading (native_kind a b) o ≡ Ok x) × (bits ≡ of_z w128 x) × IsInRange (native_kind a b) x)
    → v ≡ wrapped_bits signed size bits →
    (v ≡ n) × IsInReach (native_kind signed size) n
read_from_shortest a signed b size bits n v o p q s t r w =
    let e : n ≡ r.0 = sym t.value ∙ reading_value (native_kind a b) o r.0 r.1 in
    let k : native_kind a b ≡ native_kind signed size = ap (λ x. native_kind x b) p ∙ ap (native_kind signed) q in
    let range : IsInRange (native_kind signed size) n =
    subst (λ z. IsInRange (native_kind signed size) z) (sym e) (subst (λ k. IsInRange k r.0) k r.3) in
    let bits_of : bits ≡ of_z w128 n = r.2 ∙ ap (of_z w128) (sym e) in (
      w ∙ (ap (wrapped_bits signed size) bits_of ∙ wrapped_bits_back signed size n s range),
      in_range_held signed size n
          range,
    )

pub none_from_shortest : (a signed : Bool) (b size : ℕ) (n : ℤ) (o : List ℕ) (e : IntegerError) → a ≡ signed → b ≡ size
    → IsNativeSize size → IsShortest n o →
    ReadsBits (native_kind a b) (Err e) (signed_reading (native_kind a b) o) → IsInReach (native_kind signed size) n → ⊥
none_from_shortest a signed b size n o e p q s t r h =
    let k : native_kind a b ≡ native_kind signed size = ap (λ x. native_kind x b) p ∙ ap (native_kind signed) q in
    not_read (native_kind signed size) e (signed_reading (native_kind signed size) o) n
    (subst (λ k. ReadsBits k (Err e) (signed_reading k o)) k r)
    (native_reads_shortest signed size s n o (held_in_range signed size n h) t)

pub sum_at_bits : (signed : Bool) (size la lb : ℕ) (a b v : ℤ) → IsNativeSize size
    → IsInRange (native_kind signed size) a → la ≡ of_z w128 a → pos lb ≡ b →
    v ≡ wrapped_bits signed size ((la + lb) % 2 ^ 128) → IsWrapped (native_kind signed size) (a +ℤ b) v
sum_at_bits signed size la lb a b v s r p q w =
    let pair : down b ≤ 2 ^ 128 = subst (λ z. down z ≤ 2 ^ 128) q (omega arith) in
    let e : v ≡ wrapped_bits signed size ((of_z w128 a + of_z w128 b) % 2 ^ 128) =
    w ∙ (ap (λ x. wrapped_bits signed size ((x + lb) % 2 ^ 128)) p
    ∙ ap (λ z. wrapped_bits signed size ((of_z w128 a + of_z w128 z) % 2 ^ 128)) q) in
    subst (IsWrapped (native_kind signed size) (a +ℤ b)) (sym e)
    (sum_is_wrapped signed size a b s (down_fits signed size a s r) pair)

-- the low octets of the bits are those of the residue
residue_at_bits : (size : ℕ) (n : ℤ) → IsNativeSize size → down n ≤ 2 ^ 128
    → (of_z w128 n % 2 ^ (8 * size) < 2 ^ (8 * size))
    × DifferByMultiple (2 ^ (8 * size)) n (pos (of_z w128 n % 2 ^ (8 * size)))
residue_at_bits size n s h =
    let e = low_parts_of n h in
    let x : 8 * size + (128 - 8 * size) ≡ 128 = omega (arith, s) in
    let w : 2 ^ 128 ≡ 2 ^ (8 * size) * 2 ^ (128 - 8 * size) = ap (λ (k : ℕ). 2 ^ k) (sym x)
    ∙ pow-add 2 (8 * size) (128 - 8 * size) in
    let d = div-add-mod' (of_z w128 n) (2 ^ (8 * size)) in
    let we : e.0 * 2 ^ 128 ≡ e.0 * (2 ^ (8 * size) * 2 ^ (128 - 8 * size)) = ap (λ y. e.0 * y) w in (
      mod-lt (of_z w128 n) {m = 2 ^ (8 * size)} (pow_pos (8 * size)),
      apart_by (8 * size) n (pos (of_z w128 n % 2 ^ (8 * size))) (e.0 * 2 ^ (128 - 8 * size))
          (of_z w128 n / 2 ^ (8 * size)) (omega arith),
    )

in_residue : (signed : Bool) (size : ℕ) (n : ℤ) (r : ℕ) → (r < 2 ^ (8 * size))
    × DifferByMultiple (2 ^ (8 * size)) n (pos r) → IsResidue (native_kind signed size) n r
in_residue true size n r h = h
in_residue false size n r h = h

pub residue_spelled : (signed : Bool) (size low : ℕ) (n : ℤ) (o : List ℕ) → IsNativeSize size
    → IsInRange (native_kind signed size) n → low ≡ of_z w128 n →
    IsShortestUnsigned (low % 2 ^ (8 * size)) o → SpellsUnsigned (native_kind signed size) n o
residue_spelled signed size low n o s r b t =
    spelled signed (of_z w128 n % 2 ^ (8 * size))
    (in_residue signed size n (of_z w128 n % 2 ^ (8 * size))
    (residue_at_bits size n s (down_fits signed size n s r)))
    (subst (λ x. IsShortestUnsigned (x % 2 ^ (8 * size)) o) b t)
  where
    spelled : (s' : Bool) (x : ℕ) → IsResidue (native_kind s' size) n x → IsShortestUnsigned x o
        → SpellsUnsigned (native_kind s' size) n o
    spelled true x i k = (x, i, k)
    spelled false x i k = (x, i, k)

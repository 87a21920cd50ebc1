-- The laws of counted integers as fields: an octet, and after it an integer of as many octets.
use Rattle.std.proofs.Common.{◌≡◌, ℕ, ◌+◌, ◌-◌, ◌*◌, ◌<◌, ◌≤◌, ℤ, Bool, true, false, eqb, ltb, List, ◌∷◌, ◌++◌, length, take, drop, Result, Ok, Err, refl, sym, ap, subst, ◌∙◌, append_assoc, arith, inl, inr}
use Rattle.std.specs.Prelude.{◌||◌, is_ok}
use Rattle.std.proofs.lemmas.List.{length-append, take_at, drop_at, length-take, length-drop, take-append-drop}
use Rattle.std.proofs.lemmas.Bool.{ltb-true, ltb-false, le-ltb, eqb-false, ne_eqb}
use Rattle.asn1_bits.specs.Bits.{digits, number, bits}
use Rattle.asn1_bits.specs.View.{View, part}
use Rattle.asn1_bits.specs.Laws.DigitLaws.{length-digits, length-bits}
use Rattle.asn1_bits.specs.Laws.NumberLaws.{number_of-digits, digits_of-number}
use Rattle.asn1_bits.specs.declared.bit_reader.BitReader.{BitReader}
use Rattle.asn1_values.specs.declared.bit_fields.error.ReadError.{ReadError}
use Rattle.asn1_values.specs.Steps.{past, Examines}
use Rattle.asn1_values.specs.Fields.{Field, IsSpelledBy, IsOfShape, Integer, CountedInteger, OfInteger, OfCountedInteger}
use Rattle.asn1_values.specs.Wrong.{Fault, NumberWidth, NotInteger, Short, NoCharacter, NoLength, NotIdentifier, ArcOver, IsReason, IsCount, first_octet}
use Rattle.asn1_values.specs.Walk.{as_counted, counted, integer_at, counted_at, field_at}
use Rattle.asn1_values.proofs.ExactKinds.{IsExact, Takes, Read, failed, tested, chosen, err_is, ok_is, err_is_no_ok, ok_is_no_err}
use Rattle.asn1_values.proofs.IntegerKind.{integer_exact}
use Rattle.asn1_values.specs.Laws.SpellingLaws.{same_shortest}

-- ---- the octet that counts

pub is_no_count : ℕ → Bool
is_no_count k = eqb k 0 || ltb 127 k

either : (a b : Bool) → (a || b) ≡ false → (a ≡ false) × (b ≡ false)
either true b e = absurd cc
either false b e = (refl, e)

one_of : (a b : Bool) → (a || b) ≡ true → (a ≡ false → b ≡ false → ⊥)
one_of true b e x y = absurd cc
one_of false true e x y = absurd cc
one_of false false e x y = absurd cc

count_from : (k : ℕ) → is_no_count k ≡ false → IsCount k
unfolding is_no_count
count_from k e =
    let p = either (eqb k 0) (ltb 127 k) e in
    let ne = eqb-false k 0 p.0 in
    let le = ltb-false 127 k p.1 in
    (omega arith, omega arith)

count_test : (k : ℕ) → IsCount k → is_no_count k ≡ false
unfolding is_no_count
count_test k c =
    let some = c.0 in
    rw (ne_eqb k 0 (λ z. omega arith), le-ltb 127 k c.1) refl

no_count : (k : ℕ) → is_no_count k ≡ true → ¬ (IsCount k)
unfolding is_no_count
no_count k e c =
    let some = c.0 in
    one_of (eqb k 0) (ltb 127 k) e (ne_eqb k 0 (λ z. omega arith)) (le-ltb 127 k c.1)

-- ---- the integer after it

counted_ok : (r : Read) (field : Field) (rest : List Bool) → counted r ≡ Ok (field, rest) → (x : Field × List Bool)
    × (r ≡ Ok x) × (◌≡◌ {A = Field × List Bool} (as_counted x.0, x.1) (field, rest))
counted_ok (Ok x) field rest e = (x, refl, ok_is _ _ e)
counted_ok (Err fault) field rest e = absurd (err_is_no_ok _ _ e)

counted_err : (r : Read) (fault : Fault) → counted r ≡ Err fault → r ≡ Err fault
counted_err (Ok x) fault e = absurd (ok_is_no_err _ _ e)
counted_err (Err f) fault e = e

-- as an integer of the shape is read, so is a counted one
at_integer : (k : ℕ) (left : List Bool) → integer_at k left ≡ field_at (OfInteger k) left
unfolding field_at
at_integer k left = refl

-- an octet, and octets after it, are the octets of a list one longer
bits_more : (octets : List ℕ) → bits (length octets ∷ octets) ≡ digits (length octets) 8 ++ bits octets
unfolding bits
bits_more octets = refl

counted_takes : (list : List Bool) (k : ℕ) (field : Field) (rest : List Bool) → 8 ≤ length list
    → k ≡ number (take 8 list) → IsCount k → Takes (OfInteger k) (drop 8 list) field rest
    → Takes OfCountedInteger list (as_counted field) rest
counted_takes list k (Integer n) rest le is count t =
    let o : List ℕ = t.spelled.0 in
    let len : length o ≡ k = ap length (same_shortest n o t.of_shape.0 t.spelled.1 t.of_shape.1) ∙ t.of_shape.2 in
    let first : take 8 list ≡ digits (length o) 8 =
    sym (digits_of-number (take 8 list) 8 (omega (arith, length-take 8 list)))
    ∙ ap (λ (m : ℕ). digits m 8) (sym is ∙ sym len) in
    let small = count.1 in
    record {
      front = take 8 list ++ t.front;
      of_shape = tt;
      spelled = (
        o,
        t.spelled.1,
        omega arith,
        ap (λ (l : List Bool). l ++ t.front) first
            ∙ ap (λ (l : List Bool). digits (length o) 8 ++ l) t.spelled.2 ∙ sym (bits_more o),
      );
      parts = sym (take-append-drop 8 list) ∙ ap (λ (l : List Bool). take 8 list ++ l) t.parts
          ∙ sym (append_assoc (take 8 list) t.front rest);
    }
counted_takes list k field rest le is count t = absurd t.of_shape

-- why no integer can be read is why no counted one can
counted_reason : (list : List Bool) (fault : Fault) → 8 ≤ length list → IsCount (first_octet list)
    → IsReason (OfInteger (first_octet list)) (drop 8 list) fault → IsReason OfCountedInteger list fault
counted_reason list NotInteger le count (inl none) = let some = count.0 in absurd (omega arith)
counted_reason list NotInteger le count (inr r) = (omega (arith, length-drop 8 list, r.0), count, r.1)
counted_reason list (Short n) le count r = let some =
    r.1.0 in inr (le, count, (some, omega (arith, length-drop 8 list, r.1.1)))
counted_reason list (NumberWidth w) le count r = absurd r
counted_reason list (NoCharacter c) le count r = absurd r
counted_reason list (NoLength c) le count r = absurd r
counted_reason list NotIdentifier le count r = absurd r
counted_reason list ArcOver le count r = absurd r

-- ---- counted integers as fields

pub counted_exact : IsExact OfCountedInteger (field_at OfCountedInteger)
unfolding field_at counted_at failed is_no_count
counted_exact = record { taken = taken; again = again; reason = reason }
  where
    taken : (list : List Bool) (field : Field) (rest : List Bool) → field_at OfCountedInteger list ≡ Ok (field, rest)
        → Takes OfCountedInteger list field rest
    taken list field rest e =
        let k : ℕ = number (take 8 list) in
        elim (chosen (ltb (length list) 8) (failed (Short (8 - length list))) (counted_at k (drop 8 list))
        (Ok (field, rest)) e) [
          | inl h ↦ absurd (err_is_no_ok _ _ h.1)
          | inr h ↦ elim (chosen (eqb k 0 || ltb 127 k) (failed (NoLength k)) (counted (integer_at k (drop 8 list)))
              (Ok (field, rest)) h.1) [
                | inl g ↦ absurd (err_is_no_ok _ _ g.1)
                | inr g ↦
                    let x = counted_ok (integer_at k (drop 8 list)) field rest g.1 in
                    let t = (integer_exact k).taken (drop 8 list) x.0.0 x.0.1 (sym (at_integer k (drop 8 list)) ∙ x.1) in
                    subst (λ (p : Field × List Bool). Takes OfCountedInteger list p.0 p.1) x.2
                    (counted_takes list k x.0.0 x.0.1 (ltb-false _ _ h.0) refl (count_from k g.0) t)
              ]
        ]

    again : (field : Field) (front rest : List Bool) → IsOfShape field OfCountedInteger → IsSpelledBy field front
        → field_at OfCountedInteger (front ++ rest) ≡ Ok (field, rest)
    again (CountedInteger n) front rest shape s =
        let o : List ℕ = s.0 in
        let list : List Bool = front ++ rest in
        let small = s.2 in
        let some = s.1.some in
        let len : length (digits (length o) 8) ≡ 8 = length-digits (length o) 8 in
        let whole : list ≡ digits (length o) 8 ++ (bits o ++ rest) =
        ap (λ (l : List Bool). l ++ rest) (s.3 ∙ bits_more o) ∙ append_assoc (digits (length o) 8) (bits o) rest in
        let first : number (take 8 list) ≡ length o =
        ap (λ (l : List Bool). number (take 8 l)) whole
        ∙ ap number (take_at (digits (length o) 8) (bits o ++ rest) 8 len)
        ∙ number_of-digits (length o) 8 (omega arith) in
        let behind : drop 8 list ≡ bits o ++ rest = ap (drop 8) whole
        ∙ drop_at (digits (length o) 8) (bits o ++ rest) 8 len in
        let long : ltb (length list) 8 ≡ false =
        le-ltb _ _ (omega (arith, ap length whole, length-append (digits (length o) 8) (bits o ++ rest))) in
        let read : integer_at (length o) (bits o ++ rest) ≡ Ok (Integer n, rest) =
        at_integer (length o) (bits o ++ rest)
        ∙ (integer_exact (length o)).again (Integer n) (bits o) rest (o, s.1, refl) (o, s.1, refl) in
        rw (long, first, behind, count_test (length o) (omega arith, small), read) refl
    again field front rest shape s = absurd shape

    reason : (list : List Bool) (fault : Fault) → field_at OfCountedInteger list ≡ Err fault
        → IsReason OfCountedInteger list fault
    reason list fault e =
        let k : ℕ = number (take 8 list) in
        elim (chosen (ltb (length list) 8) (failed (Short (8 - length list))) (counted_at k (drop 8 list)) (Err fault)
        e) [
          | inl h ↦
              let lt : length list < 8 = ltb-true _ _ h.0 in
              subst (λ (f : Fault). IsReason OfCountedInteger list f) (err_is _ _ h.1) (inl (omega arith, omega arith))
          | inr h ↦
              let le : 8 ≤ length list = ltb-false _ _ h.0 in
              elim (chosen (eqb k 0 || ltb 127 k) (failed (NoLength k)) (counted (integer_at k (drop 8 list)))
              (Err fault) h.1) [
                | inl g ↦ subst (λ (f : Fault). IsReason OfCountedInteger list f) (err_is _ _ g.1)
                    (le, refl, no_count k g.0)
                | inr g ↦
                    let r =
                    (integer_exact k).reason (drop 8 list) fault
                    (sym (at_integer k (drop 8 list)) ∙ counted_err _ fault g.1) in
                    counted_reason list fault le (count_from k g.0) r
              ]
        ]

-- ---- what is read of them

integer_there : (r : Read) → is_ok (counted r) ≡ true → is_ok r ≡ true
integer_there (Ok x) e = refl
integer_there (Err fault) e = absurd cc

-- where a counted integer can be read, it has its first octet, and after it an integer of as many octets
pub counted_there : (list : List Bool) → is_ok (field_at OfCountedInteger list) ≡ true
    → (8 ≤ length list) × (is_no_count (first_octet list) ≡ false)
    × (is_ok (integer_at (first_octet list) (drop 8 list)) ≡ true)
unfolding field_at counted_at failed is_no_count
counted_there list ok =
    let k : ℕ = first_octet list in
    let h = tested (ltb (length list) 8) (Short (8 - length list)) (counted_at k (drop 8 list)) ok in
    let g = tested (eqb k 0 || ltb 127 k) (NoLength k) (counted (integer_at k (drop 8 list))) h.1 in
    (ltb-false _ _ h.0, g.0, integer_there _ g.1)

pub read_counted : (list left : List Bool) (n : ℤ) → is_ok (field_at OfCountedInteger list) ≡ true
    → integer_at (first_octet list) (drop 8 list) ≡ Ok (Integer n, left)
    → field_at OfCountedInteger list ≡ Ok (CountedInteger n, left)
unfolding field_at counted_at is_no_count
read_counted list left n ok read =
    let there = counted_there list ok in
    rw (le-ltb _ _ there.0, there.1, read) refl

past_as_counted : (at : ℕ) (read : Result (Field × List Bool) Fault) → past at (counted read) ≡ past at read
past_as_counted at (Ok x) = refl
past_as_counted at (Err fault) = refl

-- after a count it is examined as the integer is
pub examined_counted : {A : Type 0} (at k : ℕ) (list : List Bool) (new : BitReader) (result : Result A ReadError)
    → 8 ≤ length list → k ≡ first_octet list → IsCount k → Examines at (integer_at k (drop 8 list)) new result
    → Examines at (field_at OfCountedInteger list) new result
unfolding field_at counted_at is_no_count
examined_counted at k list new result enough is count read =
    let same : past at (field_at OfCountedInteger list) ≡ past at (integer_at k (drop 8 list)) =
    rw (le-ltb _ _ enough, ← is, count_test k count) (past_as_counted at (integer_at k (drop 8 list))) in
    record { ok = rw same read.ok; err = rw same read.err }

-- and every list that encodes it has the bits of the octets that were asked for, and eight more
pub length-read_counted : (k : ℕ) (list left : List Bool) (n : ℤ) → integer_at k list ≡ Ok (Integer n, left)
    → (others : List Bool) → IsSpelledBy (CountedInteger n) others → length others ≡ 8 + 8 * k
length-read_counted k list left n e others s =
    let t = (integer_exact k).taken list (Integer n) left (sym (at_integer k list) ∙ e) in
    let count : length s.0 ≡ k = ap length (same_shortest n s.0 t.of_shape.0 s.1 t.of_shape.1) ∙ t.of_shape.2 in
    omega (arith, ap length s.3, length-bits (length s.0 ∷ s.0))

-- a part of the part after an octet
pub part_behind : (v now : View) (n m : ℕ) → now ≡ part v 8 (v.len - 8) → m ≡ 8 + n
    → part now n (now.len - n) ≡ part v m (v.len - m)
part_behind v now n m is e =
    let first : v.first + 8 + n ≡ v.first + m = omega arith in
    let len : v.len - 8 - n ≡ v.len - m = omega arith in
    ap (λ (w : View). part w n (w.len - n)) is
    ∙ ap (λ (i : ℕ). record { storage = v.storage; first = i; len = v.len - 8 - n }) first
    ∙ ap (λ (i : ℕ). record { storage = v.storage; first = v.first + m; len = i }) len

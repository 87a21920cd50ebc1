-- What follows of bits that are set after they were written.
use Rattle.std.proofs.Common.{◌≡◌, ℕ, suc, ◌+◌, ◌-◌, ◌*◌, ◌/◌, ◌^◌, ◌<◌, ◌≤◌, List, [], ◌∷◌, ◌++◌, Bool, true, length, take, drop, sym, ap, ◌∙◌, subst, arith, append_assoc}
use Rattle.std.proofs.Math.Nat.{div-eq_of_lt}
use Rattle.std.proofs.Math.Seq.{take-add}
use Rattle.std.proofs.lemmas.List.{length-append, take_at, drop_at, drop-take, take-take}
use Rattle.std.proofs.lemmas.Nat.{pow_pos}
use Rattle.asn1_bits.specs.Bits.{bits, digits, overwritten}
use Rattle.asn1_bits.specs.Laws.DigitLaws.{length-bits}
use Rattle.asn1_bits.specs.Laws.NumberLaws.{digits-append}
use Rattle.asn1_x691_writers.specs.Written.{IsIndex, Holds, IsGrown}
use Rattle.asn1_x691_writers.specs.GrownSteps.{index_is, index_least}

pub zeros_apart : (m n : ℕ) → digits 0 (m + n) ≡ digits 0 m ++ digits 0 n
zeros_apart m n =
    let e : 0 / 2 ^ n ≡ 0 = div-eq_of_lt (pow_pos n) in
    digits-append 0 m n ∙ ap (λ (k : ℕ). digits k m ++ digits 0 n) e

same_size : (xs ys : List Bool) (a b : Bool) → length (xs ++ (a ∷ ys)) ≡ length (xs ++ (b ∷ ys))
same_size xs ys a b = length-append xs (a ∷ ys) ∙ sym (length-append xs (b ∷ ys))

-- a list with one bit set
set_in : (was now front ys : List Bool) (b : Bool) (at n : ℕ) → at ≡ length front → n ≡ length (front ++ (b ∷ ys)) → n ≤ length was
    → take n was ≡ front ++ (b ∷ ys) → now ≡ overwritten was at (true ∷ []) → take n now ≡ front ++ (true ∷ ys)
unfolding overwritten
set_in was now front ys b at n e size inside kept is =
    let m = n - (at + 1) in
    let total : n ≡ at + suc m = omega (arith, e, size, length-append front (b ∷ ys)) in
    let part : n ≡ at + 1 + m = omega (arith, e, size, length-append front (b ∷ ys)) in
    let rest = drop (at + 1) was in
    let before : take at was ≡ front =
    sym (take-take at n was (omega (arith, total))) ∙ ap (λ (l : List Bool). take at l) kept ∙ take_at front (b ∷ ys) at (sym e) in
    let joined : take (at + 1 + m) was ≡ (front ++ (b ∷ [])) ++ ys =
    ap (λ (k : ℕ). take k was) (sym part) ∙ kept ∙ sym (append_assoc front (b ∷ []) ys) in
    let after : take m (drop (at + 1) was) ≡ ys =
    sym (drop-take (at + 1) m was) ∙ ap (λ (l : List Bool). drop (at + 1) l) joined
    ∙ drop_at (front ++ (b ∷ [])) ys (at + 1) (omega (arith, e, length-append front (b ∷ []))) in
    let whole : now ≡ front ++ (true ∷ rest) = is ∙ ap (λ (l : List Bool). l ++ (true ∷ rest)) before in
    ap (λ (l : List Bool). take n l) whole
    ∙ ap (λ (k : ℕ). take k (front ++ (true ∷ rest))) total
    ∙ take-add at (suc m) (front ++ (true ∷ rest))
    ∙ ap (λ (l : List Bool). l ++ take (suc m) (drop at (front ++ (true ∷ rest)))) (take_at front (true ∷ rest) at (sym e))
    ∙ ap (λ (l : List Bool). front ++ take (suc m) l) (drop_at front (true ∷ rest) at (sym e))
    ∙ ap (λ (l : List Bool). front ++ (true ∷ l)) after

module _ (was mid now : List ℕ) (old at new : ℕ) (xs ys : List Bool) (b : Bool) (size : 8 * length mid < 2 ^ 64)
    (same : length now ≡ length mid) (index : (n : ℕ) → IsIndex old n → IsIndex at (n + length xs))
    (g : IsGrown was old mid new (xs ++ (b ∷ ys))) where
  index_of : (n : ℕ) → IsIndex old n → IsIndex new (n + length (xs ++ (true ∷ ys)))
  index_of n h = subst (λ (k : ℕ). IsIndex new (n + k)) (same_size xs ys b true) (g.index n h)

  held_size : (list : List Bool) → length (list ++ (xs ++ (true ∷ ys))) ≡ length (list ++ (xs ++ (b ∷ ys)))
  held_size list =
      length-append list (xs ++ (true ∷ ys)) ∙ ap (λ (k : ℕ). length list + k) (same_size xs ys true b)
      ∙ sym (length-append list (xs ++ (b ∷ ys)))

  held_index : (list : List Bool) → Holds was old list → IsIndex new (length (list ++ (xs ++ (true ∷ ys))))
  held_index list h = subst (λ (k : ℕ). IsIndex new k) (sym (held_size list)) (g.held list h).index

  -- the bit is not in the octets
  pub set_past : 8 * length mid ≤ at → now ≡ mid → IsGrown was old now new (xs ++ (true ∷ ys))
  set_past past e = record {
    held = λ list h. record {
      index = held_index list h;
      kept = λ le.
          let low = index_least at (length list + length xs) (index (length list) h.index) in
          absurd (omega (arith, low, past, le, same, length-append list (xs ++ (true ∷ ys)), length-append xs (true ∷ ys)));
    };
    index = index_of;
  }

  pub set_inside : bits now ≡ overwritten (bits mid) at (true ∷ []) → IsGrown was old now new (xs ++ (true ∷ ys))
  set_inside is = record {
    held = λ list h. record {
      index = held_index list h;
      kept = λ le.
          let n = length (list ++ (xs ++ (true ∷ ys))) in
          let held = g.held list h in
          let few : length (list ++ (xs ++ (b ∷ ys))) ≤ 8 * length mid = omega (arith, le, same, held_size list) in
          let more : length list + length xs ≤ 8 * length mid =
          omega (arith, few, length-append list (xs ++ (b ∷ ys)), length-append xs (b ∷ ys)) in
          let exact : at ≡ length list + length xs =
          index_is at (length list + length xs) (length mid) (index (length list) h.index) more size in
          let e : at ≡ length (list ++ xs) = exact ∙ sym (length-append list xs) in
          let kept : take (length (list ++ (xs ++ (true ∷ ys)))) (bits mid) ≡ (list ++ xs) ++ (b ∷ ys) =
          ap (λ (k : ℕ). take k (bits mid)) (held_size list) ∙ held.kept few ∙ sym (append_assoc list xs (b ∷ ys)) in
          set_in (bits mid) (bits now) (list ++ xs) ys b at n e
          (held_size list ∙ ap length (sym (append_assoc list xs (b ∷ ys)))) (omega (arith, le, same, length-bits mid)) kept is
          ∙ append_assoc list xs (true ∷ ys);
    };
    index = index_of;
  }

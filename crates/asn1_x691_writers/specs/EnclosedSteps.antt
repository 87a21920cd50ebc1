-- What follows of octets that were written before their number.
use Rattle.std.proofs.Common.{◌≡◌, ℕ, ◌+◌, ◌*◌, ◌<◌, ◌≤◌, List, ◌++◌, Bool, length, take, drop, refl, sym, ap, ◌∙◌, subst, inl, inr, arith, append_assoc}
use Rattle.std.proofs.Math.Seq.{take-append-add}
use Rattle.std.proofs.lemmas.List.{length-append, take_at, drop_at, drop-take, take-take, drop-drop}
use Rattle.asn1_bits.specs.Bits.{bits, digits, overwritten}
use Rattle.asn1_bits.specs.Laws.DigitLaws.{bits-take, bits-drop, length-digits}
use Rattle.asn1_x691_writers.specs.Written.{IsIndex, Holds, IsGrown}
use Rattle.asn1_x691_writers.specs.Enclosed.{IsOver}

-- ---- bits over others

take_over : (front list rest : List Bool) (n : ℕ)
    → take (length front + (length list + n)) (front ++ (list ++ rest)) ≡ front ++ (list ++ take n rest)
take_over front list rest n =
    take-append-add front (list ++ rest) (length list + n) ∙ ap (λ (l : List Bool). front ++ l) (take-append-add list rest n)

-- the bits before some bits, and those after them
module _ (was list xs zs : List Bool) (at n : ℕ) (here : length list ≡ at) (size : at + (length xs + length zs) ≡ n)
    (kept : take n was ≡ list ++ (xs ++ zs)) where
  before_is : take at was ≡ list
  before_is =
      sym (take-take at n was (omega (arith, size))) ∙ ap (λ (l : List Bool). take at l) kept ∙ take_at list (xs ++ zs) at here

  after_is : take (length zs) (drop (at + length xs) was) ≡ zs
  after_is =
      let m = at + length xs in
      let e : m + length zs ≡ n = omega (arith, size) in
      sym (drop-take m (length zs) was)
      ∙ ap (λ (k : ℕ). drop m (take k was)) e
      ∙ ap (λ (l : List Bool). drop m l) (kept ∙ sym (append_assoc list xs zs))
      ∙ drop_at (list ++ xs) zs m (length-append list xs ∙ ap (λ (k : ℕ). k + length xs) here)

-- within the first octet an index is exact
module _ (was : List ℕ) (at : ℕ) (low : at < 8) where
  exact : (n : ℕ) → IsIndex at n → n ≡ at
  exact n (inl e) = sym e
  exact n (inr p) = absurd (omega (arith, p.0, low))

  here : (list : List Bool) → Holds was at list → length list ≡ at
  here list h = exact (length list) h.index

total : (list ys zs : List Bool) (at : ℕ) → length list ≡ at → length (list ++ (ys ++ zs)) ≡ at + (length ys + length zs)
total list ys zs at e = omega (arith, e, length-append list (ys ++ zs), length-append ys zs)

-- ---- as many bits over others

module _ (was mid now : List ℕ) (at new : ℕ) (xs ys zs : List Bool) (low : at < 8) (same : length now ≡ length mid)
    (size : length xs ≡ length ys) (g : IsGrown was at mid new (xs ++ zs)) where
  as_long : (list : List Bool) → length (list ++ (xs ++ zs)) ≡ length (list ++ (ys ++ zs))
  as_long list =
      omega (arith, size, length-append list (xs ++ zs), length-append xs zs, length-append list (ys ++ zs), length-append ys zs)

  over_kept : (list : List Bool) → Holds was at list → IsOver mid at ys now → length (list ++ (ys ++ zs)) ≤ 8 * length now
      → take (length (list ++ (ys ++ zs))) (bits now) ≡ list ++ (ys ++ zs)
  unfolding overwritten
  over_kept list h (inl e) le =
      let at_is = here was at low list h in
      let n = at + (length xs + length zs) in
      let few : length (list ++ (xs ++ zs)) ≤ 8 * length mid = omega (arith, le, same, as_long list) in
      let kept : take n (bits mid) ≡ list ++ (xs ++ zs) =
      ap (λ (k : ℕ). take k (bits mid)) (sym (total list xs zs at at_is)) ∙ (g.held list h).kept few in
      let rest = drop (at + length ys) (bits mid) in
      let whole : bits now ≡ list ++ (ys ++ rest) =
      e ∙ ap (λ (l : List Bool). l ++ (ys ++ rest)) (before_is (bits mid) list xs zs at n at_is refl kept) in
      let after : take (length zs) rest ≡ zs =
      ap (λ (k : ℕ). take (length zs) (drop (at + k) (bits mid))) (sym size) ∙ after_is (bits mid) list xs zs at n at_is refl kept in
      let size_is : length (list ++ (ys ++ zs)) ≡ length list + (length ys + length zs) =
      omega (arith, length-append list (ys ++ zs), length-append ys zs) in
      ap (λ (l : List Bool). take (length (list ++ (ys ++ zs))) l) whole
      ∙ ap (λ (k : ℕ). take k (list ++ (ys ++ rest))) size_is
      ∙ take_over list ys rest (length zs)
      ∙ ap (λ (l : List Bool). list ++ (ys ++ l)) after
  over_kept list h (inr p) le =
      absurd (omega (arith, le, same, p.1, total list ys zs at (here was at low list h)))

  pub over_grown : IsOver mid at ys now → IsGrown was at now new (ys ++ zs)
  over_grown o = record {
    held = λ list h. record {
      index = subst (λ (k : ℕ). IsIndex new k) (as_long list) (g.held list h).index;
      kept = over_kept list h o;
    };
    index = λ n h.
        let e : n + length (xs ++ zs) ≡ n + length (ys ++ zs) =
        omega (arith, size, length-append xs zs, length-append ys zs) in
        subst (λ (k : ℕ). IsIndex new k) e (g.index n h);
  }

-- ---- two octets before octets that were moved by one

module _ (was mid now : List ℕ) (at n : ℕ) (two contents : List Bool) (low : at < 8) (size : length contents ≡ 8 * n)
    (sixteen : length two ≡ 16) where
  abbrev end : ℕ
  end = at + 16 + 8 * n

  end_is : (k : ℕ) → IsIndex at k → IsIndex end (k + length (two ++ contents))
  end_is k h = inl (omega (arith, exact was at low k h, size, sixteen, length-append two contents))

  -- the octets are too few
  pub moved_short : 8 * length now < end → IsGrown was at now end (two ++ contents)
  moved_short short = record {
    held = λ list h. record {
      index = inl (omega (arith, size, sixteen, total list two contents at (here was at low list h)));
      kept = λ le. absurd (omega (arith, le, short, size, sixteen, total list two contents at (here was at low list h)));
    };
    index = end_is;
  }

  module _ (moved : List ℕ) (m : ℕ) (many : at + 8 * n ≤ 8 * m) (same : length now ≡ length mid)
      (first : take 1 moved ≡ take 1 mid) (on : take m (drop 2 moved) ≡ take m (drop 1 mid))
      (over : bits now ≡ overwritten (bits moved) at two)
      (g : IsGrown was at mid (at + 8 + 8 * n) (digits 0 8 ++ contents)) where
    -- the bits of the first octet
    front_is : take at (bits moved) ≡ take at (bits mid)
    front_is =
        let le : at ≤ 8 = omega (arith, low) in
        sym (take-take at 8 (bits moved) le)
        ∙ ap (λ (l : List Bool). take at l) (sym (bits-take 1 moved) ∙ ap bits first ∙ bits-take 1 mid)
        ∙ take-take at 8 (bits mid) le

    -- those of the octets that were moved
    rest_is : take (8 * m) (drop 16 (bits moved)) ≡ take (8 * m) (drop 8 (bits mid))
    rest_is =
        ap (λ (l : List Bool). take (8 * m) l) (sym (bits-drop 2 moved))
        ∙ sym (bits-take m (drop 2 moved)) ∙ ap bits on ∙ bits-take m (drop 1 mid)
        ∙ ap (λ (l : List Bool). take (8 * m) l) (bits-drop 1 mid)

    contents_are : take (8 * n) (drop (at + 16) (bits moved)) ≡ take (8 * n) (drop (at + 8) (bits mid))
    contents_are =
        let e : 16 + at ≡ at + 16 = omega arith in
        let f : 8 + at ≡ at + 8 = omega arith in
        let B = drop 16 (bits moved) in
        let C = drop 8 (bits mid) in
        ap (λ (k : ℕ). take (8 * n) (drop k (bits moved))) (sym e)
        ∙ ap (λ (l : List Bool). take (8 * n) l) (sym (drop-drop at 16 (bits moved)))
        ∙ sym (drop-take at (8 * n) B)
        ∙ ap (λ (l : List Bool). drop at l)
        (sym (take-take (at + 8 * n) (8 * m) B many) ∙ ap (λ (l : List Bool). take (at + 8 * n) l) rest_is
        ∙ take-take (at + 8 * n) (8 * m) C many)
        ∙ drop-take at (8 * n) C
        ∙ ap (λ (l : List Bool). take (8 * n) l) (drop-drop at 8 (bits mid))
        ∙ ap (λ (k : ℕ). take (8 * n) (drop k (bits mid))) f

    moved_kept : (list : List Bool) → Holds was at list → length (list ++ (two ++ contents)) ≤ 8 * length now
        → take (length (list ++ (two ++ contents))) (bits now) ≡ list ++ (two ++ contents)
    unfolding overwritten
    moved_kept list h le =
        let at_is = here was at low list h in
        let zeros = digits 0 8 in
        let eight : length zeros ≡ 8 = length-digits 0 8 in
        let k = at + (length zeros + length contents) in
        let few : length (list ++ (zeros ++ contents)) ≤ 8 * length mid =
        omega (arith, le, same, eight, sixteen, total list zeros contents at at_is, total list two contents at at_is) in
        let kept : take k (bits mid) ≡ list ++ (zeros ++ contents) =
        ap (λ (i : ℕ). take i (bits mid)) (sym (total list zeros contents at at_is)) ∙ (g.held list h).kept few in
        let rest = drop (at + length two) (bits moved) in
        let front : take at (bits moved) ≡ list = front_is ∙ before_is (bits mid) list zeros contents at k at_is refl kept in
        let whole : bits now ≡ list ++ (two ++ rest) = over ∙ ap (λ (l : List Bool). l ++ (two ++ rest)) front in
        let after : take (length contents) rest ≡ contents =
        ap (λ (i : ℕ). take i rest) size
        ∙ ap (λ (i : ℕ). take (8 * n) (drop (at + i) (bits moved))) sixteen
        ∙ contents_are
        ∙ ap (λ (i : ℕ). take (8 * n) (drop (at + i) (bits mid))) (sym eight)
        ∙ ap (λ (i : ℕ). take i (drop (at + length zeros) (bits mid))) (sym size)
        ∙ after_is (bits mid) list zeros contents at k at_is refl kept in
        let size_is : length (list ++ (two ++ contents)) ≡ length list + (length two + length contents) =
        omega (arith, length-append list (two ++ contents), length-append two contents) in
        ap (λ (l : List Bool). take (length (list ++ (two ++ contents))) l) whole
        ∙ ap (λ (i : ℕ). take i (list ++ (two ++ rest))) size_is
        ∙ take_over list two rest (length contents)
        ∙ ap (λ (l : List Bool). list ++ (two ++ l)) after

    pub moved_grown : IsGrown was at now end (two ++ contents)
    moved_grown = record {
      held = λ list h. record {
        index = inl (omega (arith, size, sixteen, total list two contents at (here was at low list h)));
        kept = moved_kept list h;
      };
      index = end_is;
    }

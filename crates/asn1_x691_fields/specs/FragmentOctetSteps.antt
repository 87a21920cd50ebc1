-- What follows of the octets of a message that are in fragments.
use Rattle.std.proofs.Common.{◌≡◌, ℕ, zero, suc, ◌+◌, ◌*◌, ◌-◌, ◌/◌, ◌%◌, ◌<◌, ◌≤◌, List, ◌++◌, Bool, length, take, drop, refl, sym, ap, ◌∙◌, arith}
use Rattle.std.proofs.lemmas.List.{length-append, take-take}
use Rattle.asn1_schema.specs.declared.part.Fragments.{Fragments}
use Rattle.asn1_schema.specs.PiecesOfParts.{bits_at, bits_of, whole_fragments, joined}
use Rattle.asn1_x691_fields.specs.Fragments.{after_fragments, AreInside}
use Rattle.asn1_x691_fields.specs.JoinedSteps.{fragment_run, length_fragments, in_first, in_second, rest_of_span}
use Rattle.asn1_x691_fields.specs.Steps.{front_length}

after_octets : (at times : ℕ) → after_fragments 8 at times ≡ at + 524296 * times
unfolding after_fragments
after_octets at zero = omega arith
after_octets at (suc times) = let e = after_octets (at + 524288 + 8) times in omega (arith, e)

-- bits of a span
of_span : (list : List Bool) (at count k n : ℕ) → k + n ≤ count → bits_at (bits_at list at count) k n ≡ bits_at list (at + k) n
of_span list at count k n h =
    let few : n ≤ count - k = omega (arith, h) in
    sym (take-take n (count - k) (drop k (bits_at list at count)) few)
    ∙ ap (take n) (rest_of_span list at count k (omega (arith, h)))
    ∙ take-take n (count - k) (drop (at + k) list) few

first_bits : (xs ys : List Bool) (a b m n : ℕ) → n ≤ m → bits_at xs a m ≡ bits_at ys b m → bits_at xs a n ≡ bits_at ys b n
first_bits xs ys a b m n h e =
    sym (take-take n m (drop a xs) h) ∙ ap (take n) e ∙ take-take n m (drop b ys) h

module _ (list : List Bool) (f : Fragments) (i : AreInside 8 list f) where
  pub whole_inside : f.at + 524296 * f.whole ≤ length list
  whole_inside = omega (arith, i.whole, after_octets f.at f.whole)

  abbrev W : List Bool
  W = whole_fragments 8 list f.at f.whole

  abbrev M : List Bool
  M = bits_of list f.middle

  abbrev L : List Bool
  L = bits_of list f.last

  size_of_whole : length W ≡ 524288 * f.whole
  size_of_whole = length_fragments 8 list f.at f.whole whole_inside

  size_of_middle : length M ≡ f.middle.count
  size_of_middle = front_length list f.middle.at f.middle.count i.middle.inside

  size_of_last : length L ≡ f.last.count
  size_of_last = front_length list f.last.at f.last.count i.last.inside

  pub size_of_all : length (joined 8 list f) ≡ 524288 * f.whole + (f.middle.count + f.last.count)
  size_of_all =
      let a = length-append W (M ++ L) in
      let b = length-append M L in
      omega (arith, a, b, size_of_whole, size_of_middle, size_of_last)

  -- an octet of a fragment of 65,536
  pub in_whole : (index : ℕ) → index / 65536 < f.whole
      → bits_at list (f.at + 524296 * (index / 65536) + 8 * (index % 65536)) 8 ≡ bits_at (joined 8 list f) (8 * index) 8
  in_whole index h =
      let w = index / 65536 in
      let r = 8 * (index % 65536) in
      let e : 524288 * w + r ≡ 8 * index = omega arith in
      let run = fragment_run list 8 f.at f.whole w r (M ++ L) h (omega arith) whole_inside in
      sym (first_bits (joined 8 list f) list (524288 * w + r) (f.at + 524296 * w + r) (524288 - r) 8 (omega arith) run)
      ∙ ap (λ (k : ℕ). bits_at (joined 8 list f) k 8) e

  -- those after them
  module _ (index : ℕ) (h : f.whole ≤ index / 65536) where
    abbrev after : ℕ
    after = index - 65536 * f.whole

    past_whole : bits_at (joined 8 list f) (8 * index) 8 ≡ bits_at (M ++ L) (8 * after) 8
    past_whole =
        let e : 8 * index - 524288 * f.whole ≡ 8 * after = omega (arith, h) in
        in_second W (M ++ L) (8 * index) 8 (524288 * f.whole) size_of_whole (omega (arith, h))
        ∙ ap (λ (k : ℕ). bits_at (M ++ L) k 8) e

    pub in_middle : after < f.middle.count / 8 → bits_at list (f.middle.at + 8 * after) 8 ≡ bits_at (joined 8 list f) (8 * index) 8
    in_middle few =
        let fits : 8 * after + 8 ≤ f.middle.count = omega (arith, few) in
        sym (past_whole ∙ in_first M L (8 * after) 8 (omega (arith, fits, size_of_middle))
        ∙ of_span list f.middle.at f.middle.count (8 * after) 8 fits)

    pub in_last : f.middle.count / 8 ≤ after → 8 * index + 8 ≤ length (joined 8 list f)
        → bits_at list (f.last.at + 8 * (after - f.middle.count / 8)) 8 ≡ bits_at (joined 8 list f) (8 * index) 8
    in_last many all =
        let k = after - f.middle.count / 8 in
        let whole : 8 * (f.middle.count / 8) ≡ f.middle.count = omega (arith, i.middle.units) in
        let e : 8 * after - f.middle.count ≡ 8 * k = omega (arith, whole, many) in
        let fits : 8 * k + 8 ≤ f.last.count = omega (arith, size_of_all, all, whole, many, h) in
        sym (past_whole
        ∙ in_second M L (8 * after) 8 f.middle.count size_of_middle (omega (arith, whole, many))
        ∙ ap (λ (n : ℕ). bits_at L n 8) e
        ∙ of_span list f.last.at f.last.count (8 * k) 8 fits)

    pub fits_last : f.middle.count / 8 ≤ after → 8 * index + 8 ≤ length (joined 8 list f)
        → 8 * (after - f.middle.count / 8) + 8 ≤ f.last.count
    fits_last many all =
        let whole : 8 * (f.middle.count / 8) ≡ f.middle.count = omega (arith, i.middle.units) in
        omega (arith, size_of_all, all, whole, many, h)

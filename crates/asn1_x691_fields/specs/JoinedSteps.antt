-- What follows of units in fragments: which bits of the message are a run of theirs.
use Rattle.std.proofs.Common.{◌≡◌, ℕ, zero, suc, ◌+◌, ◌*◌, ◌-◌, ◌<◌, ◌≤◌, List, [], ◌++◌, Bool, length, take, drop, refl, sym, ap, ◌∙◌, arith, append_assoc}
use Rattle.std.proofs.Math.Nat.{mul-le-mul_right}
use Rattle.std.proofs.Math.Seq.{drop-append-add}
use Rattle.std.proofs.lemmas.List.{length-append, length-drop, drop_all, append-nil, drop-drop, drop-take, drop-append-le, take-append-le, take-take}
use Rattle.asn1_schema.specs.declared.part.Span.{Span}
use Rattle.asn1_schema.specs.PiecesOfParts.{bits_at, bits_of, whole_fragments}
use Rattle.asn1_x691_fields.specs.Steps.{front_length}

-- ---- fragments past the end, and those before it

pub none_at : (list : List Bool) (at count : ℕ) → length list ≤ at → bits_at list at count ≡ []
none_at list at zero h = refl
none_at list at (suc count) h = ap (take (suc count)) (drop_all at list h)

-- the bits of a fragment of 65,536 units, and of the length octet after it
abbrev pub and_octet : ℕ → ℕ
and_octet unit = unit * 65536 + 8

module _ (unit : ℕ) where
  pub past_end : (list : List Bool) (at times : ℕ) → length list ≤ at → whole_fragments unit list at times ≡ []
  unfolding whole_fragments
  past_end list at zero h = refl
  past_end list at (suc times) h =
      let next = at + unit * 65536 + 8 in
      ap (λ (l : List Bool). l ++ whole_fragments unit list next times) (none_at list at (unit * 65536) h)
      ∙ past_end list next times (omega (arith, h))

  pub fragments_apart : (list : List Bool) (at m n : ℕ)
      → whole_fragments unit list at (m + n) ≡ whole_fragments unit list at m ++ whole_fragments unit list (at + and_octet unit * m) n
  unfolding whole_fragments
  fragments_apart list at zero n =
      let e : zero + n ≡ n = omega arith in
      let f : at ≡ at + and_octet unit * zero = omega arith in
      ap (λ (k : ℕ). whole_fragments unit list at k) e ∙ ap (λ (k : ℕ). whole_fragments unit list k n) f
  fragments_apart list at (suc m) n =
      let size = unit * 65536 in
      let next = at + size + 8 in
      let e : suc m + n ≡ suc (m + n) = omega arith in
      let f : next + and_octet unit * m ≡ at + and_octet unit * suc m = omega arith in
      ap (λ (k : ℕ). whole_fragments unit list at k) e
      ∙ ap (λ (l : List Bool). bits_at list at size ++ l) (fragments_apart list next m n)
      ∙ sym (append_assoc (bits_at list at size) (whole_fragments unit list next m) (whole_fragments unit list (next + and_octet unit * m) n))
      ∙ ap (λ (k : ℕ). (bits_at list at size ++ whole_fragments unit list next m) ++ whole_fragments unit list k n) f

  pub one_more : (list : List Bool) (at times : ℕ) → 0 < times → length list ≤ at + and_octet unit
      → whole_fragments unit list at times ≡ bits_at list at (unit * 65536)
  unfolding whole_fragments
  one_more list at zero some h = absurd (omega (arith, some))
  one_more list at (suc times) some h =
      ap (λ (l : List Bool). bits_at list at (unit * 65536) ++ l) (past_end list (at + unit * 65536 + 8) times (omega (arith, h)))
      ∙ append-nil (bits_at list at (unit * 65536))

  pub length_fragments : (list : List Bool) (at times : ℕ) → at + and_octet unit * times ≤ length list
      → length (whole_fragments unit list at times) ≡ unit * 65536 * times
  unfolding whole_fragments
  length_fragments list at zero h = omega arith
  length_fragments list at (suc times) h =
      let next = at + unit * 65536 + 8 in
      let first = front_length list at (unit * 65536) (omega (arith, h)) in
      let others = length_fragments list next times (omega (arith, h)) in
      let all = length-append (bits_at list at (unit * 65536)) (whole_fragments unit list next times) in
      omega (arith, first, others, all)

-- ---- bits of lists one after another

pub in_first : (xs ys : List Bool) (at n : ℕ) → at + n ≤ length xs → bits_at (xs ++ ys) at n ≡ bits_at xs at n
in_first xs ys at n h =
    let size = length-drop at xs in
    ap (take n) (drop-append-le at xs ys (omega (arith, h)))
    ∙ take-append-le n (drop at xs) ys (omega (arith, h, size))

pub in_second : (xs ys : List Bool) (at n size : ℕ) → length xs ≡ size → size ≤ at → bits_at (xs ++ ys) at n ≡ bits_at ys (at - size) n
in_second xs ys at n size e h =
    let f : at ≡ length xs + (at - size) = omega (arith, e, h) in
    ap (λ (k : ℕ). bits_at (xs ++ ys) k n) f ∙ ap (take n) (drop-append-add xs ys (at - size))

-- what is left of a span
pub rest_of_span : (list : List Bool) (at count k : ℕ) → k ≤ count → bits_at (bits_at list at count) k (count - k) ≡ bits_at list (at + k) (count - k)
rest_of_span list at count k h =
    let e : count ≡ k + (count - k) = omega (arith, h) in
    ap (λ (n : ℕ). take (count - k) (drop k (take n (drop at list)))) e
    ∙ ap (take (count - k)) (drop-take k (count - k) (drop at list))
    ∙ take-take (count - k) (count - k) (drop k (drop at list)) (omega arith)
    ∙ ap (take (count - k)) (drop-drop k at list)

-- ---- a run of bits that are in the list one after another

cancel : (n r : ℕ) → n + r - n ≡ r
cancel n r = omega arith

no_less : (n r : ℕ) → n ≤ n + r
no_less n r = omega arith

next_one : (whole w : ℕ) → w < whole → whole ≡ w + suc (whole - w - 1)
next_one whole w h = omega (arith, h)

module _ (unit whole w r : ℕ) (some : w < whole) (few : r ≤ unit * 65536) where
  -- the fragments up to this one are among all
  many : suc w * unit ≤ whole * unit
  many = mul-le-mul_right unit some

  to_end : (size : ℕ) → size ≡ unit * 65536 → r + (unit * 65536 - r) ≤ size
  to_end size e = omega (arith, few, e)

  within_whole : (size : ℕ) → size ≡ unit * 65536 * whole → unit * 65536 * w + r + (unit * 65536 - r) ≤ size
  within_whole size e = omega (arith, many, few, e)

  first_inside : (at size : ℕ) → at + and_octet unit * whole ≤ size → at + and_octet unit * w + unit * 65536 ≤ size
  first_inside at size h = omega (arith, many, some, h)

  some_inside : (at size : ℕ) → at + and_octet unit * whole ≤ size → at + and_octet unit * w ≤ size
  some_inside at size h = omega (arith, many, some, h)

module _ (list : List Bool) where
  pub fragment_run : (unit at whole w r : ℕ) (others : List Bool) → w < whole → r ≤ unit * 65536 → at + and_octet unit * whole ≤ length list
      → bits_at (whole_fragments unit list at whole ++ others) (unit * 65536 * w + r) (unit * 65536 - r)
      ≡ bits_at list (at + and_octet unit * w + r) (unit * 65536 - r)
  unfolding whole_fragments
  fragment_run unit at whole w r others some few inside =
      let size = unit * 65536 in
      let all = length_fragments unit list at whole inside in
      let before = length_fragments unit list at w (some_inside unit whole w r some few at (length list) inside) in
      let first = at + and_octet unit * w in
      let rest = whole - w - 1 in
      let one = front_length list first size (first_inside unit whole w r some few at (length list) inside) in
      in_first (whole_fragments unit list at whole) others (size * w + r) (size - r) (within_whole unit whole w r some few _ all)
      ∙ ap (λ (l : List Bool). bits_at l (size * w + r) (size - r))
      (ap (λ (k : ℕ). whole_fragments unit list at k) (next_one whole w some) ∙ fragments_apart unit list at w (suc rest))
      ∙ in_second (whole_fragments unit list at w) (whole_fragments unit list first (suc rest)) (size * w + r) (size - r)
      (size * w) before (no_less (size * w) r)
      ∙ ap (λ (k : ℕ). bits_at (whole_fragments unit list first (suc rest)) k (size - r)) (cancel (size * w) r)
      ∙ in_first (bits_at list first size) (whole_fragments unit list (first + size + 8) rest) r (size - r) (to_end unit whole w r some few _ one)
      ∙ rest_of_span list first size r few

  module _ (part middle last : Span) (inside : part.at + part.count ≤ length list) (within : middle.at + middle.count ≤ length list) where
    abbrev After : List Bool
    After = bits_of list part ++ (bits_of list middle ++ bits_of list last)

    pub part_run : (from : ℕ) → from ≤ part.count
        → bits_at list (part.at + from) (part.count - from) ≡ bits_at After from (part.count - from)
    part_run from h =
        let size = front_length list part.at part.count inside in
        sym (in_first (bits_of list part) (bits_of list middle ++ bits_of list last) from (part.count - from) (omega (arith, size, h))
        ∙ rest_of_span list part.at part.count from h)

    pub middle_run : (from : ℕ) → part.count ≤ from → from - part.count ≤ middle.count
        → bits_at list (middle.at + (from - part.count)) (middle.count - (from - part.count))
        ≡ bits_at After from (middle.count - (from - part.count))
    middle_run from h few =
        let k = from - part.count in
        let size = front_length list part.at part.count inside in
        let next = front_length list middle.at middle.count within in
        sym (in_second (bits_of list part) (bits_of list middle ++ bits_of list last) from (middle.count - k) part.count size h
        ∙ in_first (bits_of list middle) (bits_of list last) k (middle.count - k) (omega (arith, next, few))
        ∙ rest_of_span list middle.at middle.count k few)

    pub last_run : (from : ℕ) → part.count ≤ from → middle.count ≤ from - part.count → from - part.count - middle.count ≤ last.count
        → bits_at list (last.at + (from - part.count - middle.count)) (last.count - (from - part.count - middle.count))
        ≡ bits_at After from (last.count - (from - part.count - middle.count))
    last_run from h more few =
        let k = from - part.count - middle.count in
        let size = front_length list part.at part.count inside in
        let next = front_length list middle.at middle.count within in
        sym (in_second (bits_of list part) (bits_of list middle ++ bits_of list last) from (last.count - k) part.count size h
        ∙ in_second (bits_of list middle) (bits_of list last) (from - part.count) (last.count - k) middle.count next more
        ∙ rest_of_span list last.at last.count k few)

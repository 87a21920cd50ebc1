-- What follows of bits in fragments.
use Rattle.std.proofs.Common.{◌≡◌, ℕ, zero, suc, ◌+◌, ◌*◌, ◌-◌, ◌<◌, ◌≤◌, ◌⊎◌, List, [], ◌∷◌, ◌++◌, Bool, true, false, length, take, drop, min, refl, sym, ap, ◌∙◌, inl, inr, arith, append_assoc}
use Rattle.std.specs.Prelude.{nat_eq}
use Rattle.std.proofs.Math.Seq.{take-add, drop-append-add, take-append-add}
use Rattle.std.proofs.Math.Nat.{eq-or-lt_of_le}
use Rattle.std.proofs.lemmas.List.{drop-drop, append-nil, length-drop}
use Rattle.asn1_bits.specs.Bits.{number}
use Rattle.asn1_schema.specs.declared.part.Fragments.{Fragments}
use Rattle.asn1_schema.specs.declared.part.Span.{Span}
use Rattle.asn1_schema.specs.PiecesOfParts.{bits_at, bits_of, joined, whole_fragments}
use Rattle.asn1_x691_fields.specs.JoinedSteps.{past_end}
use Rattle.asn1_x690_writers.specs.declared.fragments.Rest.{Rest}
use Rattle.asn1_x690_writers.specs.Fragments.{bits_left}

-- ---- all bits

-- two spans
pub two : (unit : ℕ) (list : List Bool) (head last : Span)
    → bits_left unit list (record { head = head; others = record { at = 0; whole = 0; middle = record { at = 0; count = 0 }; last = last } })
    ≡ bits_of list head ++ bits_of list last
unfolding whole_fragments
two unit list head last = refl

some_bits : (n : ℕ) (list : List Bool) → 0 < n → 0 < length list → take n list ≡ [] → ⊥
some_bits zero list h k e = omega (arith, h)
some_bits (suc n) [] h k e = omega (arith, k)
some_bits (suc n) (b ∷ list) h k e = omega (arith, ap length e)

no_head : (list : List Bool) (s : Span) → s.count ≡ 0 → bits_of list s ≡ []
no_head list s e = ap (λ (n : ℕ). take n (drop s.at list)) e

-- the index of the fragment after the first, or one past the end
reach : (at size end next : ℕ) → at < end → next ≡ at + min (size + 8) (end - at)
    → (next ≡ at + size + 8) ⊎ ((end ≤ next) × (end ≤ at + size + 8))
reach at size end next h e =
    elim (eq-or-lt_of_le {n = next} {m = at + size + 8} (omega (arith, e))) [
      | inl same ↦ inl same
      | inr less ↦ inr (omega (arith, e, h, less), omega (arith, e, h, less))
    ]

-- fragments of 65,536 units before the end
module _ (unit : ℕ) (list : List Bool) (f : Fragments) (some : 0 < f.whole) (before : f.at < length list) (head : Span) (next : ℕ)
    (same : bits_of list head ≡ bits_at list f.at (unit * 65536)) where
  abbrev Next : Rest
  Next = record { head = head; others = record { at = next; whole = f.whole - 1; middle = f.middle; last = f.last } }

  others : (k : ℕ) → (next ≡ f.at + unit * 65536 + 8) ⊎ ((length list ≤ next) × (length list ≤ f.at + unit * 65536 + 8))
      → whole_fragments unit list next k ≡ whole_fragments unit list (f.at + unit * 65536 + 8) k
  others k (inl e) = ap (λ (n : ℕ). whole_fragments unit list n k) e
  others k (inr p) = past_end unit list next k p.0 ∙ sym (past_end unit list (f.at + unit * 65536 + 8) k p.1)

  pub first_fragment : next ≡ f.at + min (unit * 65536 + 8) (length list - f.at) → bits_left unit list Next ≡ joined unit list f
  unfolding whole_fragments
  first_fragment m =
      let p = reach f.at (unit * 65536) (length list) next before m in
      let rest = bits_of list f.middle ++ bits_of list f.last in
      let size = unit * 65536 in
      let k = f.whole - 1 in
      let e : f.whole ≡ suc k = omega (arith, some) in
      ap (λ (l : List Bool). l ++ (whole_fragments unit list next k ++ rest)) same
      ∙ ap (λ (l : List Bool). bits_at list f.at size ++ (l ++ rest)) (others k p)
      ∙ sym (append_assoc (bits_at list f.at size) (whole_fragments unit list (f.at + size + 8) k) rest)
      ∙ ap (λ (n : ℕ). whole_fragments unit list f.at n ++ rest) (sym e)

  pub first_has_bits : 0 < unit → head.count ≡ 0 → ⊥
  first_has_bits h e =
      some_bits (unit * 65536) (drop f.at list) (omega (arith, h)) (omega (arith, before, length-drop f.at list)) (sym same ∙ no_head list head e)

none_past : (unit : ℕ) (list : List Bool) (f : Fragments) → (f.whole ≡ 0) ⊎ (length list ≤ f.at)
    → whole_fragments unit list f.at f.whole ≡ []
unfolding whole_fragments
none_past unit list f (inl e) = ap (λ (n : ℕ). whole_fragments unit list f.at n) e
none_past unit list f (inr h) = past_end unit list f.at f.whole h

module _ (unit : ℕ) (list : List Bool) (f : Fragments) (past : (f.whole ≡ 0) ⊎ (length list ≤ f.at)) where
  no_fragments : whole_fragments unit list f.at f.whole ≡ []
  no_fragments = none_past unit list f past

  pub last_two : (middle last : Span) → bits_of list middle ≡ bits_of list f.middle → bits_of list last ≡ bits_of list f.last
      → bits_left unit list (record { head = middle; others = record { at = 0; whole = 0; middle = record { at = 0; count = 0 }; last = last } })
      ≡ joined unit list f
  last_two middle last m l =
      two unit list middle last
      ∙ ap (λ (x : List Bool). x ++ bits_of list last) m
      ∙ ap (λ (x : List Bool). bits_of list f.middle ++ x) l
      ∙ sym (ap (λ (x : List Bool). x ++ (bits_of list f.middle ++ bits_of list f.last)) no_fragments)

  pub last_one : (middle last : Span) → bits_of list middle ≡ bits_of list f.middle → bits_of list last ≡ bits_of list f.last → middle.count ≡ 0
      → bits_left unit list (record { head = last; others = record { at = 0; whole = 0; middle = record { at = 0; count = 0 }; last = record { at = 0; count = 0 } } })
      ≡ joined unit list f
  last_one middle last m l e =
      two unit list last (record { at = 0; count = 0 })
      ∙ append-nil (bits_of list last)
      ∙ l
      ∙ ap (λ (x : List Bool). x ++ bits_of list f.last) (sym (no_head list middle e) ∙ m)
      ∙ sym (ap (λ (x : List Bool). x ++ (bits_of list f.middle ++ bits_of list f.last)) no_fragments)

  pub none_at_all : (middle last : Span) → bits_of list middle ≡ bits_of list f.middle → bits_of list last ≡ bits_of list f.last → middle.count ≡ 0
      → last.count ≡ 0 → joined unit list f ≡ []
  none_at_all middle last m l e d =
      ap (λ (x : List Bool). x ++ (bits_of list f.middle ++ bits_of list f.last)) no_fragments
      ∙ ap (λ (x : List Bool). x ++ bits_of list f.last) (sym m ∙ no_head list middle e)
      ∙ sym l
      ∙ no_head list last d

-- ---- the first bits

module _ (unit : ℕ) (list : List Bool) where
  -- those of the head, and the others
  pub some_of_head : (r n : Rest) (some : ℕ) → some ≤ r.head.count → n.head.at ≡ r.head.at + some → n.head.count ≡ r.head.count - some
      → n.others ≡ r.others → bits_left unit list r ≡ bits_at list r.head.at some ++ bits_left unit list n
  some_of_head r n some h at count same =
      let others = joined unit list r.others in
      let rest = r.head.count - some in
      let e : r.head.count ≡ some + rest = omega (arith, h) in
      ap (λ (k : ℕ). bits_at list r.head.at k ++ others) e
      ∙ ap (λ (l : List Bool). l ++ others) (take-add some rest (drop r.head.at list))
      ∙ ap (λ (l : List Bool). (bits_at list r.head.at some ++ take rest l) ++ others) (drop-drop some r.head.at list)
      ∙ append_assoc (bits_at list r.head.at some) (bits_at list (r.head.at + some) rest) others
      ∙ ap (λ (k : ℕ). bits_at list r.head.at some ++ (bits_at list k rest ++ others)) (sym at)
      ∙ ap (λ (k : ℕ). bits_at list r.head.at some ++ (bits_at list n.head.at k ++ others)) (sym count)
      ∙ ap (λ (f : Fragments). bits_at list r.head.at some ++ (bits_of list n.head ++ joined unit list f)) (sym same)

-- of all bits `done` were taken, then some more
module _ (all xs ys : List Bool) (done some : ℕ) (e : drop done all ≡ xs ++ ys) (size : length xs ≡ some) where
  pub taken : take (done + some) all ≡ take done all ++ xs
  taken =
      let k : some ≡ length xs + 0 = omega (arith, size) in
      take-add done some all
      ∙ ap (λ (l : List Bool). take done all ++ take some l) e
      ∙ ap (λ (n : ℕ). take done all ++ take n (xs ++ ys)) k
      ∙ ap (λ (l : List Bool). take done all ++ l) (take-append-add xs ys 0 ∙ append-nil xs)

  pub dropped : drop (done + some) all ≡ ys
  dropped =
      let k : some ≡ length xs + 0 = omega (arith, size) in
      sym (drop-drop some done all)
      ∙ ap (drop some) e
      ∙ ap (λ (n : ℕ). drop n (xs ++ ys)) k
      ∙ drop-append-add xs ys 0

-- bits that are left have a head
pub has_head : (all : List Bool) (count done n : ℕ) → done < count → count ≤ length all → (n ≡ 0 → drop done all ≡ []) → 0 < n
has_head all count done zero h few none = omega (arith, h, few, ap length (none refl), length-drop done all)
has_head all count done (suc n) h few none = omega arith

some_first : (n : ℕ) (xs ys : List Bool) → 0 < n → 0 < length xs → take 1 (take n xs ++ ys) ≡ take 1 xs
some_first zero xs ys h k = absurd (omega (arith, h))
some_first (suc n) [] ys h k = absurd (omega (arith, k))
some_first (suc n) (b ∷ xs) ys h k = refl

-- the first bit that is left
pub first_of_head : (unit : ℕ) (list : List Bool) (r : Rest) → 0 < r.head.count → r.head.at + r.head.count ≤ length list
    → take 1 (bits_left unit list r) ≡ bits_at list r.head.at 1
first_of_head unit list r h inside =
    some_first r.head.count (drop r.head.at list) (joined unit list r.others) h (omega (arith, h, inside, length-drop r.head.at list))

of_bit : (b : Bool) → nat_eq (number (b ∷ [])) 1 ≡ b
unfolding number
of_bit false = refl
of_bit true = refl

-- a bit as a number
pub one_or_zero : (list : List Bool) (b : Bool) → list ≡ b ∷ [] → nat_eq (number list) 1 ≡ b
one_or_zero list b e = ap (λ (l : List Bool). nat_eq (number l) 1) e ∙ of_bit b

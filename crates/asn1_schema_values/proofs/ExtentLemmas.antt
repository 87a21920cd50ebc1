-- Where values end, by a count of the values that are still to come.
use Rattle.std.proofs.Common.{◌≡◌, ℕ, zero, suc, ◌+◌, ◌-◌, ◌≤◌, ◌<◌, List, [], ◌∷◌, ◌++◌, length, take, drop, Option, Some, None, refl, sym, ap, ◌∙◌, subst, arith, append_assoc, zero-add, add-zero, get_or, inl, inr}
use Rattle.std.proofs.Math.Seq.{take-append_seam, drop-append_seam, drop-cons}
use Rattle.std.proofs.lemmas.Bool.Decides.{leb_tells}
use Rattle.std.proofs.lemmas.List.{length-append, length-drop, length-take, take-append-drop, drop-drop}
use Rattle.std.specs.Prelude.{slice_range}
use Rattle.asn1_schema.specs.declared.part.Part.{Part}
use Rattle.asn1_schema_values.specs.Extents.{AreValues, none, more, HasValues, held_by}

-- the parts after `n` values
abbrev pub rest_after : ℕ → List Part → Option (List Part)
rest_after zero parts = Some parts
rest_after (suc n) [] = None
rest_after (suc n) (p ∷ parts) = rest_after (held_by p + n) parts

-- `n` values that parts begin with, and the parts after them
pub record Begins (n : ℕ) (parts rest : List Part) : Type 0 where
  pub values : List Part
  pub are : AreValues n values
  pub whole : parts ≡ values ++ rest

-- some of the values of a list, and the others
pub record Parted (n m : ℕ) (parts : List Part) : Type 0 where
  pub first : List Part
  pub second : List Part
  pub are : AreValues n first
  pub others : AreValues m second
  pub whole : parts ≡ first ++ second

parted : (n m : ℕ) {k : ℕ} {parts : List Part} → AreValues k parts → k ≡ n + m → Parted n m parts
parted zero m {k} {parts} v e =
    let P : ℕ → Type 0 = λ i. AreValues i parts in
    record { first = []; second = parts; are = none; others = subst P (e ∙ zero-add m) v; whole = refl }
parted (suc n) m none e = absurd (omega arith)
parted (suc n) m (more p {held} {others} h o) e =
    let of_others : Parted n m others = parted n m o (omega arith) in
    record {
      first = p ∷ (held ++ of_others.first);
      second = of_others.second;
      are = more p h of_others.are;
      others = of_others.others;
      whole = ap (λ (xs : List Part). p ∷ (held ++ xs)) of_others.whole
          ∙ ap (λ (xs : List Part). p ∷ xs) (sym (append_assoc held of_others.first of_others.second));
    }

pub begins : (parts rest : List Part) (n : ℕ) → rest_after n parts ≡ Some rest → Begins n parts rest
begins parts rest zero e =
    let is : parts ≡ rest = cc in
    record { values = []; are = none; whole = is }
begins [] rest (suc n) e = cc
begins (p ∷ parts) rest (suc n) e =
    let after : Begins (held_by p + n) parts rest = begins parts rest (held_by p + n) e in
    let two : Parted (held_by p) n after.values = parted (held_by p) n after.are refl in
    record {
      values = p ∷ (two.first ++ two.second);
      are = more p two.are two.others;
      whole = ap (λ (xs : List Part). p ∷ xs) after.whole ∙ ap (λ (xs : List Part). p ∷ (xs ++ rest)) two.whole;
    }

-- values are passed over
pub passes : {n : ℕ} {values : List Part} → AreValues n values → (m : ℕ) (rest : List Part)
    → rest_after (n + m) (values ++ rest) ≡ rest_after m rest
passes none m rest = ap (λ (i : ℕ). rest_after i rest) (zero-add m)
passes (more {n} p {held} {others} h o) m rest =
    let more_pending : suc n + m ≡ suc (n + m) = omega arith in
    ap (λ (i : ℕ). rest_after i (p ∷ ((held ++ others) ++ rest))) more_pending
    ∙ ap (λ (xs : List Part). rest_after (held_by p + (n + m)) xs) (append_assoc held others rest)
    ∙ passes h (n + m) (others ++ rest)
    ∙ passes o m rest

module _ (parts : List Part) (at n : ℕ) where
  -- where values end, the count is used up
  pub ends : (end : ℕ) → HasValues parts at n end → rest_after n (drop at parts) ≡ Some (drop end parts)
  ends end has =
      let size = end - at in
      let ordered = has.ordered in
      let to : at + size ≡ end = omega arith in
      let front = take size (drop at parts) in
      let back : drop size (drop at parts) ≡ drop end parts =
      drop-drop size at parts ∙ ap (λ (i : ℕ). drop i parts) to in
      let whole : drop at parts ≡ front ++ drop end parts =
      sym (take-append-drop size (drop at parts)) ∙ ap (λ (xs : List Part). front ++ xs) back in
      ap (rest_after n) whole
      ∙ ap (λ (i : ℕ). rest_after i (front ++ drop end parts)) (sym (add-zero n))
      ∙ passes has.values 0 (drop end parts)

  pub none_ends : rest_after n (drop at parts) ≡ None → (end : ℕ) → HasValues parts at n end → ⊥
  none_ends short end has = let is = ends end has in cc

  -- where the count is used up, values end
  pub has_values : (end : ℕ) → at ≤ end → end ≤ length parts → rest_after n (drop at parts) ≡ Some (drop end parts)
      → HasValues parts at n end
  has_values end ordered within is =
      let b = begins (drop at parts) (drop end parts) n is in
      let whole = ap length b.whole in
      let sum = length-append b.values (drop end parts) in
      let all = length-drop at parts in
      let rest = length-drop end parts in
      let size : length b.values ≡ end - at = omega arith in
      let P : List Part → Type 0 = λ xs. AreValues n xs in
      let values : take (end - at) (drop at parts) ≡ b.values =
      ap (λ (i : ℕ). take i (drop at parts)) (sym size) ∙ ap (take (length b.values)) b.whole
      ∙ take-append_seam b.values (drop end parts) in
      record { ordered = ordered; within = within; values = subst P (sym values) b.are }

-- a part is the first of a value, and the values that it holds are still to come
pub step : (parts : List Part) (left pending n : ℕ) (d : Part) → 0 < left → left ≤ length parts → 0 < pending
    → n ≡ (pending - 1) + held_by (get_or parts (length parts - left) d)
    → rest_after pending (drop (length parts - left) parts) ≡ rest_after n (drop (length parts - (left - 1)) parts)
step parts left pending n d some within more_pending sum =
    let next : ℕ = length parts - left in
    let p : Part = get_or parts next d in
    let others : List Part = drop (length parts - (left - 1)) parts in
    let inside : next < length parts = omega arith in
    let first : drop next parts ≡ p ∷ others =
    drop-cons parts next d inside
    ∙ ap (λ (i : ℕ). p ∷ drop i parts) (let e : suc next ≡ length parts - (left - 1) = omega arith in e) in
    let one : pending ≡ suc (pending - 1) = omega arith in
    let held : held_by p + (pending - 1) ≡ n = omega arith in
    ap (rest_after pending) first
    ∙ ap (λ (i : ℕ). rest_after i (p ∷ others)) one
    ∙ ap (λ (i : ℕ). rest_after i others) held

-- there are no more values than parts
pub too_many : (parts : List Part) (n : ℕ) → length parts < n → rest_after n parts ≡ None
too_many parts zero less = absurd (omega arith)
too_many [] (suc n) less = refl
too_many (p ∷ parts) (suc n) less = too_many parts (held_by p + n) (omega arith)

module _ (parts : List Part) (left pending : ℕ) (within : left ≤ length parts) where
  -- more values than parts are still to come
  pub too_many_left : left < pending → rest_after pending (drop (length parts - left) parts) ≡ None
  too_many_left more_pending =
      let size = length-drop (length parts - left) parts in
      too_many (drop (length parts - left) parts) pending (omega arith)

  -- a part holds more values than there are parts
  pub too_many_held : (d : Part) → 0 < left → 0 < pending
      → left ≤ (pending - 1) + held_by (get_or parts (length parts - left) d) → rest_after pending (drop (length parts - left) parts) ≡ None
  too_many_held d some more_pending many =
      let n : ℕ = (pending - 1) + held_by (get_or parts (length parts - left) d) in
      let size = length-drop (length parts - (left - 1)) parts in
      step parts left pending n d some within more_pending refl
      ∙ too_many (drop (length parts - (left - 1)) parts) n (omega arith)

-- values end at one index at most
pub one_end : (parts : List Part) (at n end other : ℕ) → HasValues parts at n end → HasValues parts at n other → end ≡ other
one_end parts at n end other one two =
    let first = ends parts at n end one in
    let second = ends parts at n other two in
    let same : drop end parts ≡ drop other parts = cc in
    let sizes = ap length same in
    let left = length-drop end parts in
    let right = length-drop other parts in
    let within = one.within in
    let inside = two.within in
    omega arith

-- ---- values one after another, up to the last part

some_parts : {n : ℕ} {values : List Part} → AreValues n values → 0 < n → 0 < length values
some_parts none some = absurd (omega arith)
some_parts (more p h o) some = omega arith

-- a value has a part
pub goes_on : (parts : List Part) (at end : ℕ) → HasValues parts at 1 end → at < end
goes_on parts at end has =
    let some = some_parts has.values (omega arith) in
    let size = length-take (end - at) (drop at parts) in
    let ordered = has.ordered in
    omega arith

-- values, and others after them
passes_on : (parts : List Part) (at n end : ℕ) → HasValues parts at n end → (m : ℕ)
    → rest_after (n + m) (drop at parts) ≡ rest_after m (drop end parts)
passes_on parts at n end has m =
    let size = end - at in
    let ordered = has.ordered in
    let to : at + size ≡ end = omega arith in
    let front = take size (drop at parts) in
    let back : drop size (drop at parts) ≡ drop end parts =
    drop-drop size at parts ∙ ap (λ (i : ℕ). drop i parts) to in
    let whole : drop at parts ≡ front ++ drop end parts =
    sym (take-append-drop size (drop at parts)) ∙ ap (λ (xs : List Part). front ++ xs) back in
    ap (rest_after (n + m)) whole ∙ passes has.values m (drop end parts)

pub one_more : (parts : List Part) (from count at end : ℕ) → HasValues parts from count at → HasValues parts at 1 end
    → HasValues parts from (count + 1) end
one_more parts from count at end before value =
    let first = before.ordered in
    let second = value.ordered in
    has_values parts from (count + 1) end (omega arith) value.within
    (passes_on parts from count at before 1 ∙ ends parts at 1 end value)

pub no_values : (parts : List Part) (from : ℕ) → from ≤ length parts → HasValues parts from 0 from
no_values parts from within = has_values parts from 0 from (omega arith) within refl

-- where values do not go on, they do not end with the last part
module _ (parts : List Part) (from count at : ℕ) (before : HasValues parts from count at) (inside : at < length parts)
    (never : (end : ℕ) → HasValues parts at 1 end → ⊥) where
  fewer : (n m : ℕ) → n + m ≡ count → HasValues parts from n (length parts) → ⊥
  fewer n m e has =
      let two : Parted n m (slice_range parts from at) = parted n m before.values (sym e) in
      let all = ends parts from n (length parts) has in
      let ordered = before.ordered in
      let to : from + (at - from) ≡ at = omega arith in
      let back : drop (at - from) (drop from parts) ≡ drop at parts =
      drop-drop (at - from) from parts ∙ ap (λ (i : ℕ). drop i parts) to in
      let whole : drop from parts ≡ two.first ++ (two.second ++ drop at parts) =
      sym (take-append-drop (at - from) (drop from parts))
      ∙ ap (λ (xs : List Part). slice_range parts from at ++ xs) back
      ∙ ap (λ (xs : List Part). xs ++ drop at parts) two.whole
      ∙ append_assoc two.first two.second (drop at parts) in
      let zero_more : n + 0 ≡ n = add-zero n in
      let here : rest_after n (drop from parts) ≡ Some (two.second ++ drop at parts) =
      ap (rest_after n) whole
      ∙ ap (λ (i : ℕ). rest_after i (two.first ++ (two.second ++ drop at parts))) (sym zero_more)
      ∙ passes two.are 0 (two.second ++ drop at parts) in
      let same : two.second ++ drop at parts ≡ drop (length parts) parts = cc in
      let sizes = ap length same in
      let sum = length-append two.second (drop at parts) in
      let left = length-drop at parts in
      let right = length-drop (length parts) parts in
      omega arith

  others : (m : ℕ) → HasValues parts from (count + suc m) (length parts) → ⊥
  others m has =
      let all = ends parts from (count + suc m) (length parts) has in
      let on = passes_on parts from count at before (suc m) in
      let is : rest_after (suc m) (drop at parts) ≡ Some (drop (length parts) parts) = sym on ∙ all in
      let b = begins (drop at parts) (drop (length parts) parts) (suc m) is in
      let two : Parted 1 m b.values = parted 1 m b.are (omega arith) in
      let end = at + length two.first in
      let rest = two.second ++ drop (length parts) parts in
      let whole : drop at parts ≡ two.first ++ rest =
      b.whole ∙ ap (λ (xs : List Part). xs ++ drop (length parts) parts) two.whole
      ∙ append_assoc two.first two.second (drop (length parts) parts) in
      let after : drop end parts ≡ rest =
      sym (drop-drop (length two.first) at parts) ∙ ap (drop (length two.first)) whole ∙ drop-append_seam two.first rest in
      let one : rest_after 1 (drop at parts) ≡ Some (drop end parts) =
      ap (rest_after 1) whole ∙ passes two.are 0 rest ∙ ap (λ (xs : List Part). Some xs) (sym after) in
      let sizes = ap length whole in
      let sum = length-append two.first rest in
      let left = length-drop at parts in
      never end (has_values parts at 1 end (omega arith) (omega arith) one)

  pub never_end : (n : ℕ) → HasValues parts from n (length parts) → ⊥
  never_end n has =
      elim (leb_tells n count) [
        | inl less ↦ let below : n ≤ count = less.1 in fewer n (count - n) (omega arith) has
        | inr above ↦
            let beyond : count < n = above.1 in
            let sum : n ≡ count + suc (n - count - 1) = omega arith in
            let P : ℕ → Type 0 = λ i. HasValues parts from i (length parts) in
            others (n - count - 1) (subst P sum has)
      ]

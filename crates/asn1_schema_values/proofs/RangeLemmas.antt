-- Ranges that ascend: the first character from one on that they do not have, by one walk.
use Rattle.std.proofs.Common.{◌≡◌, ℕ, ◌+◌, ◌<◌, ◌≤◌, ◌⊎◌, inl, inr, ◌∙◌, ap, cond, ◌&&◌, leb, List, [], ◌∷◌, refl, subst, arith}
use Rattle.std.proofs.lemmas.Bool.Decides.{leb_tells}
use Rattle.asn1_schema.specs.declared.tables.Range.{Range}
use Rattle.asn1_schema_values.specs.Tables.{HasCharacter, IsAscending, IsWithin}

-- the number after a range that has a number, otherwise that number
abbrev pub past : Range → ℕ → ℕ
past r n = cond (leb r.first n && leb n r.last) (r.last + 1) n

abbrev pub past_all : List Range → ℕ → ℕ
past_all [] n = n
past_all (r ∷ ranges) n = past_all ranges (past r n)

pub past_in : (r : Range) (n : ℕ) → r.first ≤ n → n ≤ r.last → past r n ≡ r.last + 1
past_in r n first last =
    elim (leb_tells r.first n) [
      | inl a ↦ elim (leb_tells n r.last) [ inl b ↦ rw (a.0, b.0) refl | inr b ↦ absurd (omega arith) ]
      | inr a ↦ absurd (omega arith)
    ]

pub past_out : (r : Range) (n : ℕ) → ((n < r.first) ⊎ (r.last < n)) → past r n ≡ n
past_out r n out =
    elim (leb_tells r.first n) [
      | inl a ↦ elim (leb_tells n r.last) [ inl b ↦ absurd (omega (arith, out)) | inr b ↦ rw (a.0, b.0) refl ]
      | inr a ↦ rw a.0 refl
    ]

where_is : (r : Range) (n : ℕ) → ((r.first ≤ n) × (n ≤ r.last)) ⊎ ((n < r.first) ⊎ (r.last < n))
where_is r n =
    elim (leb_tells r.first n) [
      | inl a ↦ elim (leb_tells n r.last) [ inl b ↦ inl (a.1, b.1) | inr b ↦ inr (inr b.1) ]
      | inr a ↦ inr (inl a.1)
    ]

-- `past_all` is no less than its number
pub past_all_more : (ranges : List Range) (n : ℕ) → n ≤ past_all ranges n
past_all_more [] n = omega arith
past_all_more (r ∷ ranges) n =
    let onward = past_all_more ranges (past r n) in
    elim (where_is r n) [
      | inl is ↦ let e = past_in r n is.0 is.1 in omega (arith, e, onward)
      | inr out ↦ let e = past_out r n out in omega (arith, e, onward)
    ]

-- each number from n on that `past_all` skips is in the ranges
pub found : (ranges : List Range) (n c : ℕ) → n ≤ c → c < past_all ranges n → HasCharacter ranges c
found [] n c from below = absurd (omega arith)
found (r ∷ ranges) n c from below =
    elim (where_is r n) [
      | inl is ↦
          let e = past_in r n is.0 is.1 in
          elim (where_is r c) [
            | inl here ↦ inl here
            | inr out ↦ inr (found ranges (past r n) c (omega (arith, e, out)) below)
          ]
      | inr out ↦
          let e = past_out r n out in
          inr (found ranges (past r n) c (omega (arith, e)) below)
    ]

-- a number before ranges that ascend is in none of them
not_before : (ranges : List Range) (from n : ℕ) → IsAscending from ranges → n < from → HasCharacter ranges n → ⊥
not_before [] from n are before is = is
not_before (r ∷ ranges) from n are before (inl here) =
    let least = are.0 in
    omega arith
not_before (r ∷ ranges) from n are before (inr there) =
    let least = are.0 in
    let some = are.1 in
    not_before ranges (r.last + 1) n are.2 (omega arith) there

-- a walk from a number before ranges that ascend stays there
stays : (ranges : List Range) (from n : ℕ) → IsAscending from ranges → n < from → past_all ranges n ≡ n
stays [] from n are before = refl
stays (r ∷ ranges) from n are before =
    let least = are.0 in
    let some = are.1 in
    let e = past_out r n (inl (omega arith)) in
    ap (past_all ranges) e ∙ stays ranges (r.last + 1) n are.2 (omega arith)

-- where a walk over ranges that ascend ends, they have no character
pub not_found : (ranges : List Range) (from n : ℕ) → IsAscending from ranges → HasCharacter ranges (past_all ranges n) → ⊥
not_found [] from n are is = is
not_found (r ∷ ranges) from n are (inr there) = not_found ranges (r.last + 1) (past r n) are.2 there
not_found (r ∷ ranges) from n are (inl here) =
    let first = here.0 in
    let last = here.1 in
    let least = are.0 in
    let some = are.1 in
    let onward = past_all_more ranges (past r n) in
    elim (where_is r n) [
      | inl is ↦ let e = past_in r n is.0 is.1 in omega (arith, e, onward, last)
      | inr (inl before) ↦
          let e = past_out r n (inl before) in
          let same = ap (past_all ranges) e ∙ stays ranges (r.last + 1) n are.2 (omega arith) in
          omega (arith, same, first)
      | inr (inr after) ↦ let e = past_out r n (inr after) in omega (arith, e, onward, last)
    ]

-- where a walk from the first character of a range ends, tells whether the ranges have each character of it
pub tells_each : (ranges : List Range) (first last next : ℕ) → IsAscending 0 ranges → next ≡ past_all ranges first
    → (last < next → (c : ℕ) → first ≤ c → c ≤ last → HasCharacter ranges c)
    × (((c : ℕ) → first ≤ c → c ≤ last → HasCharacter ranges c) → last < next)
tells_each ranges first last next are e =
    let onward = past_all_more ranges first in (
      λ past c from to. found ranges first c from (omega arith),
      λ each.
          elim (leb_tells next last) [
            | inl within ↦
                let below : next ≤ last = within.1 in
                let P : ℕ → Type 0 = λ n. HasCharacter ranges n in
                absurd (not_found ranges 0 first are (subst P e (each next (omega arith) below)))
            | inr past ↦ past.1
          ],
    )

-- ---- ranges within others, from the first range on

pub within_more : (r : Range) (ranges whole : List Range) → ((c : ℕ) → r.first ≤ c → c ≤ r.last → HasCharacter whole c)
    → IsWithin ranges whole → IsWithin (r ∷ ranges) whole
within_more r ranges whole each others c (inl here) = each c here.0 here.1
within_more r ranges whole each others c (inr there) = others c there

pub within_first : (r : Range) (ranges whole : List Range) → IsWithin (r ∷ ranges) whole → (c : ℕ) → r.first ≤ c → c ≤ r.last
    → HasCharacter whole c
within_first r ranges whole within c from to = within c (inl (from, to))

pub within_rest : (r : Range) (ranges whole : List Range) → IsWithin (r ∷ ranges) whole → IsWithin ranges whole
within_rest r ranges whole within c there = within c (inr there)

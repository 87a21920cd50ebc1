-- Lists that are cut at an octet.
use Rattle.std.proofs.Common.{◌≡◌, ◌≢◌, ℕ, suc, ◌+◌, ◌≤◌, Bool, true, false, eqb, ltb, List, [], ◌∷◌, length, take, drop, refl, sym, ap, ◌∙◌, arith, Some, None, position, inl, inr}
use Rattle.std.specs.List.{slice_split, onto_first, position_or_len, join_with_byte}
use Rattle.std.proofs.lemmas.Bool.Decides.{nat_tests}
use Rattle.std.proofs.lemmas.List.Splits.{slice_split-cons_no, slice_split_first, length-slice_split, join_with_byte-slice_split}
use Rattle.field_lines.specs.Input.{Lines, parts, IsLastLine, AreLines}

-- ---- one octet of the kind

one_part : (p : ℕ → Bool) (x : ℕ) (xs : List ℕ) (b : Bool) → p x ≡ b → length (x ∷ xs) ≤ position_or_len p (x ∷ xs)
    → (length xs ≤ position_or_len p xs → slice_split p xs ≡ xs ∷ []) → slice_split p (x ∷ xs) ≡ (x ∷ xs) ∷ []
one_part p x xs true e all others = absurd (let none : length (x ∷ xs) ≤ 0 = rw e at all in omega arith)
one_part p x xs false e all others =
    let more : suc (length xs) ≤ 1 + position_or_len p xs = rw e at all in
    slice_split-cons_no p x xs e ∙ ap (onto_first x) (others (omega arith))

uncut : (p : ℕ → Bool) (xs : List ℕ) → length xs ≤ position_or_len p xs → slice_split p xs ≡ xs ∷ []
uncut p [] all = refl
uncut p (x ∷ xs) all = one_part p x xs (p x) refl all (uncut p xs)

pub no_cut : (p : ℕ → Bool) (xs : List ℕ) → None ≡ position p xs → slice_split p xs ≡ xs ∷ []
no_cut p xs none = by_test (ltb (position_or_len p xs) (length xs)) refl
  where
    by_test : (b : Bool) → ltb (position_or_len p xs) (length xs) ≡ b → slice_split p xs ≡ xs ∷ []
    by_test true e = absurd (let found : None ≡ Some (position_or_len p xs) = rw e at none in cc)
    by_test false e = uncut p xs (grind (arith, nat_tests))

pub cut_at : (p : ℕ → Bool) (xs : List ℕ) (at : ℕ) → Some at ≡ position p xs
    → slice_split p xs ≡ take at xs ∷ slice_split p (drop (at + 1) xs)
cut_at p xs at found = by_test (ltb (position_or_len p xs) (length xs)) refl
  where
    by_test : (b : Bool) → ltb (position_or_len p xs) (length xs) ≡ b
        → slice_split p xs ≡ take at xs ∷ slice_split p (drop (at + 1) xs)
    by_test true e =
        let is : Some at ≡ Some (position_or_len p xs) = rw e at found in
        let same : at ≡ position_or_len p xs = cc in
        rw same (slice_split_first p xs 0 (grind (arith, nat_tests)))
    by_test false e = absurd (let found : Some at ≡ None = rw e at found in cc)

-- ---- the last line

pub no_last_line : (text line rest : List ℕ) → parts text ≡ line ∷ parts rest → length rest ≢ 0 → (last : List ℕ)
    → IsLastLine (parts text) last → ⊥
no_last_line text line rest is some last (inl e) =
    let ends : parts rest ≡ [] ∷ [] = cc in
    some (ap length (sym (join_with_byte-slice_split 10 rest) ∙ ap (λ (l : List (List ℕ)). join_with_byte 10 l) ends))
no_last_line text line rest is some last (inr e) =
    let ends : parts rest ≡ [] = cc in
    let none : length (parts rest) ≡ 0 = ap length ends in
    omega (arith, length-slice_split (λ c. eqb c 10) rest)

pub no_three_lines : (text shapes octets second rest : List ℕ) → parts text ≡ shapes ∷ parts second
    → parts second ≡ octets ∷ parts rest → ((line : List ℕ) → IsLastLine (parts rest) line → ⊥) → (lines : Lines)
    → AreLines text lines → ⊥
no_three_lines text shapes octets second rest first next none lines h =
    let same : parts rest ≡ h.0 = cc (h.1) in
    none lines.start (rw (← same) at h.2)

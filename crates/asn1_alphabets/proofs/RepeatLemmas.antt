-- Lists that have a character twice. No base set does.
use Rattle.std.proofs.Common.{◌≡◌, ℕ, suc, zero, ◌+◌, ◌-◌, ◌<◌, ◌≤◌, Bool, true, false, ◌&&◌, ◌||◌, eqb, ltb, List, [], ◌∷◌, ◌++◌, length, get_or, refl, sym, ◌∙◌, arith, inl, inr}
use Rattle.std.specs.Prelude.{◌≢◌}
use Rattle.std.specs.List.{AllPairs}
use Rattle.std.proofs.lemmas.Bool.{or_cases}
use Rattle.std.specs.List.{list_all, flat_map, range_with_len}
use Rattle.std.proofs.lemmas.Bool.Decides.{nat_tests}
use Rattle.std.proofs.lemmas.List.Folds.{list_any-append}
use Rattle.asn1_characters.specs.Sets.{ranges_of, base_set, characters_between, has_character}
use Rattle.asn1_characters.specs.Laws.SetLaws.{lies_in, has_in_run, has_in_ranges}
use Rattle.asn1_characters.specs.declared.character_set.CharacterSetName.{CharacterSetName}
use Rattle.asn1_characters.specs.declared.character_set.CharacterSetName.TheVariants.{Bmp, General, Graphic, IA5, Numeric, Printable, Teletex, Visible}

-- whether a list has an element twice
abbrev pub has_repeat : List ℕ → Bool
has_repeat [] = false
has_repeat (x ∷ xs) = has_character xs x || has_repeat xs

-- what a list has is at an index
has_place : (xs : List ℕ) (c : ℕ) → has_character xs c ≡ true → (k : ℕ) × (k < length xs) × (get_or xs k 0 ≡ c)
has_place [] c has = cc
has_place (x ∷ xs) c has = elim (or_cases (eqb x c) (has_character xs c) has) [
  | inl same ↦ (0, (omega arith), grind (arith, nat_tests))
  | inr rest ↦ (let p = has_place xs c rest in (suc p.0, (omega arith), p.2))
]

-- a list that has an element twice has two equal elements
pub repeat_pair : (xs : List ℕ) → has_repeat xs ≡ true → ¬ (AllPairs (λ a b. a ≢ b) xs)
repeat_pair [] twice = cc
repeat_pair (x ∷ xs) twice = λ differ. elim (or_cases (has_character xs x) (has_repeat xs) twice) [
  | inl here ↦ (let p = has_place xs x here in differ 0 (suc p.0) 0 (omega arith) (omega arith) (sym p.2))
  | inr later ↦ repeat_pair xs later (λ i j d lt within. differ (suc i) (suc j) d (omega arith) (omega arith))
]

-- the entries of a list without x differ from x
place_differs : (xs : List ℕ) (x k d : ℕ) → has_character xs x ≡ false → k < length xs → x ≢ get_or xs k d
place_differs [] x k d none lt = absurd (omega arith)
place_differs (y ∷ xs) x zero d none lt = λ e. let t : eqb y x ≡ false =
    grind (arith, nat_tests) in grind (arith, nat_tests)
place_differs (y ∷ xs) x (suc k) d none lt = place_differs xs x k d (grind (arith, nat_tests)) (omega arith)

-- in a list that has no element twice, any two differ
pub once_pairs : (xs : List ℕ) → has_repeat xs ≡ false → AllPairs (λ a b. a ≢ b) xs
once_pairs [] once i j d lt within = absurd (omega arith)
once_pairs (x ∷ xs) once zero zero d lt within = absurd (omega arith)
once_pairs (x ∷ xs) once zero (suc j) d lt within = place_differs xs x j d (grind (arith, nat_tests)) (omega arith)
once_pairs (x ∷ xs) once (suc i) zero d lt within = absurd (omega arith)
once_pairs (x ∷ xs) once (suc i) (suc j) d lt within =
    once_pairs xs (grind (arith, nat_tests)) i j d (omega arith) (omega arith)

-- no range meets a later one
abbrev pub apart : List (ℕ × ℕ) → Bool
apart [] = true
apart (r ∷ rs) = list_all (λ q. ltb r.1 q.0 || ltb q.1 r.0) rs && apart rs

outside : (r : ℕ × ℕ) (rs : List (ℕ × ℕ)) (c : ℕ) → list_all (λ q. ltb r.1 q.0 || ltb q.1 r.0) rs ≡ true → r.0 ≤ c
    → c ≤ r.1 → lies_in rs c ≡ false
outside r [] c away low high = refl
outside r (q ∷ rs) c away low high = grind (arith, nat_tests, outside r rs c)

-- a run before a list that has none of it
run_once : (n a : ℕ) (ys : List ℕ) → ((c : ℕ) → a ≤ c → c < a + n → has_character ys c ≡ false) → has_repeat ys ≡ false
    → has_repeat (range_with_len a n ++ ys) ≡ false
run_once zero a ys none once = once
run_once (suc n) a ys none once =
    let later : has_character (range_with_len (a + 1) n) a ≡ false = has_in_run (a + 1) n a
    ∙ grind (arith, nat_tests) in
    let after : has_character ys a ≡ false = none a (omega arith) (omega arith) in
    rw (list_any-append (λ x. eqb x a) (range_with_len (a + 1) n) ys, later, after)
    (run_once n (a + 1) ys (λ c low high. none c (omega arith) (omega arith)) once)

once_in : (rs : List (ℕ × ℕ)) → apart rs ≡ true → has_repeat (flat_map characters_between rs) ≡ false
once_in [] away = refl
once_in (r ∷ rs) away =
    let first : list_all (λ q. ltb r.1 q.0 || ltb q.1 r.0) rs ≡ true = grind (arith, nat_tests) in
    let rest : apart rs ≡ true = grind (arith, nat_tests) in
    run_once (r.1 + 1 - r.0) r.0 (flat_map characters_between rs)
    (λ c low high. has_in_ranges rs c ∙ outside r rs c first low (omega arith)) (once_in rs rest)

apart_base : (name : CharacterSetName) → apart (ranges_of name) ≡ true
apart_base Bmp = refl
apart_base General = refl
apart_base Graphic = refl
apart_base IA5 = refl
apart_base Numeric = refl
apart_base Printable = refl
apart_base Teletex = refl
apart_base Visible = refl

pub base_once : (name : CharacterSetName) → has_repeat (base_set name) ≡ false
unfolding base_set
base_once name = once_in (ranges_of name) (apart_base name)

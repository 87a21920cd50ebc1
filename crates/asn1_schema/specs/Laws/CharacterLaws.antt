-- Laws of the characters that a part is.
use Rattle.std.proofs.Common.{◌≡◌, ℕ, zero, suc, ◌+◌, ◌-◌, ◌<◌, ◌≤◌, Bool, true, false, List, [], ◌∷◌, refl, sym, ◌∙◌, ap, arith, inl, inr}
use Rattle.std.proofs.lemmas.Bool.{cases_lt}
use Rattle.std.specs.Prelude.{nat_lt}
use Rattle.std.proofs.lemmas.Bool.Decides.{nat_tests}
use Rattle.asn1_schema.specs.declared.tables.Range.{Range}
use Rattle.asn1_schema.specs.CharactersOfParts.{characters_below, end_of, first_past, character_at}

-- of a range, no fewer characters are below a greater number
no_fewer : (first last c d : ℕ) → c ≤ d → ((c - first) - (c - (last + 1))) ≤ ((d - first) - (d - (last + 1)))
no_fewer first last c d p = omega (arith, p)

pub below_more : (ranges : List Range) (c d : ℕ) → c ≤ d → characters_below ranges c ≤ characters_below ranges d
below_more [] c d p = omega arith
below_more (r ∷ ranges) c d p =
    let first = no_fewer r.first r.last c d p in
    let others = below_more ranges c d p in
    omega (arith, first, others)

pub none_below : (ranges : List Range) → characters_below ranges 0 ≡ 0
none_below [] = refl
none_below (r ∷ ranges) = let others = none_below ranges in omega (arith, others)

-- from the end on there are no more characters
none_more : (first last c d : ℕ) → last + 1 ≤ c → c ≤ d → ((d - first) - (d - (last + 1))) ≤ ((c - first) - (c - (last + 1)))
none_more first last c d p q = omega (arith, p, q)

pub none_past : (ranges : List Range) (c d : ℕ) → end_of ranges ≤ c → c ≤ d → characters_below ranges d ≤ characters_below ranges c
none_past [] c d p q = omega arith
none_past (r ∷ ranges) c d p q =
    let first = none_more r.first r.last c d (omega (arith, p)) q in
    let others = none_past ranges c d (omega (arith, p)) q in
    omega (arith, first, others)

pick : (b : Bool) (here next goal : ℕ) → (b ≡ true → here ≡ goal) → (b ≡ false → next ≡ goal)
    → ◌≡◌ {A = ℕ} (elim b as (λ x. ℕ) [ true ↦ here | false ↦ next ]) goal
pick true here next goal first second = first refl
pick false here next goal first second = second refl

module _ (ranges : List Range) (i c : ℕ) (low : characters_below ranges c ≤ i) (high : i < characters_below ranges (c + 1)) where
  too_early : (from : ℕ) → from < c → nat_lt i (characters_below ranges (from + 1)) ≡ true → ⊥
  too_early from p e =
      let few = below_more ranges (from + 1) c (omega (arith, p)) in
      let many : i < characters_below ranges (from + 1) = grind (arith, nat_tests) in
      omega (arith, few, many, low)

  too_late : nat_lt i (characters_below ranges (c + 1)) ≡ false → ⊥
  too_late e =
      let few : characters_below ranges (c + 1) ≤ i = grind (arith, nat_tests) in
      omega (arith, few, high)

  at_once : (from : ℕ) → from ≤ c → nat_lt i (characters_below ranges (from + 1)) ≡ true → from ≡ c
  at_once from p e = elim (cases_lt from c) [ inl lt ↦ absurd (too_early from lt e) | inr le ↦ omega (arith, p, le) ]

  later : (from : ℕ) → from ≤ c → nat_lt i (characters_below ranges (from + 1)) ≡ false → from + 1 ≤ c
  later from p e = elim (cases_lt from c) [
    | inl lt ↦ omega (arith, lt)
    | inr le ↦ let same : from ≡ c = omega (arith, p, le) in
        absurd (too_late (ap (λ (n : ℕ). nat_lt i (characters_below ranges (n + 1))) (sym same) ∙ e))
  ]

  found : (count from : ℕ) → from ≤ c → c < from + count → first_past ranges i from count ≡ c
  found zero from p q = absurd (omega (arith, p, q))
  found (suc count) from p q =
      pick (nat_lt i (characters_below ranges (from + 1))) from (first_past ranges i (from + 1) count) c
      (λ e. at_once from p e) (λ e. found count (from + 1) (later from p e) (omega (arith, q)))

  before_end : c < end_of ranges
  before_end = elim (cases_lt c (end_of ranges)) [
    | inl lt ↦ lt
    | inr le ↦ let few = none_past ranges c (c + 1) le (omega arith) in absurd (omega (arith, few, low, high))
  ]

  -- the character of an index is the one that as many precede
  pub character_is : character_at ranges i ≡ c
  unfolding character_at
  character_is = found (end_of ranges) 0 (omega arith) (omega (arith, before_end))

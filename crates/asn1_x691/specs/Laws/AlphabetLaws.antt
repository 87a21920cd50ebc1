-- Laws of alphabets: a character has one code, and a code is of one character.
use Rattle.std.proofs.Common.{◌≡◌, ℕ, zero, suc, ◌+◌, ◌-◌, ◌^◌, ◌<◌, ◌≤◌, Bool, true, false, List, [], ◌∷◌, refl, sym, ◌∙◌, ap, arith, inl, inr}
use Rattle.std.specs.Prelude.{◌⊎◌}
use Rattle.asn1_schema.specs.declared.tables.Range.{Range}
use Rattle.asn1_x691.specs.Alphabets.{IsIn, below, are_within, width_of, code_by, HasCode}

raised : (c d : ℕ) → (c < d) ⊎ ((c ≡ d) ⊎ (d < c)) → (suc c < suc d) ⊎ ((suc c ≡ suc d) ⊎ (suc d < suc c))
raised c d (inl p) = inl (omega (arith, p))
raised c d (inr (inl p)) = inr (inl (ap suc p))
raised c d (inr (inr p)) = inr (inr (omega (arith, p)))

ordered : (c d : ℕ) → (c < d) ⊎ ((c ≡ d) ⊎ (d < c))
ordered zero zero = inr (inl refl)
ordered zero (suc d) = inl (omega arith)
ordered (suc c) zero = inr (inr (omega arith))
ordered (suc c) (suc d) = raised c d (ordered c d)

-- of a range, no fewer characters are below a greater one
no_fewer : (first last c d : ℕ) → c ≤ d → ((c - first) - (c - (last + 1))) ≤ ((d - first) - (d - (last + 1)))
no_fewer first last c d p = omega (arith, p)

more_of : (first last c d : ℕ) → c < d → first ≤ c → c ≤ last
    → ((c - first) - (c - (last + 1))) < ((d - first) - (d - (last + 1)))
more_of first last c d p low high = omega (arith, p, low, high)

below_more : (ranges : List Range) (c d : ℕ) → c ≤ d → below ranges c ≤ below ranges d
below_more [] c d p = omega arith
below_more (r ∷ ranges) c d p =
    let first = no_fewer r.first r.last c d p in
    let others = below_more ranges c d p in
    omega (arith, first, others)

below_less : (ranges : List Range) (c d : ℕ) → c < d → IsIn ranges c → below ranges c < below ranges d
below_less [] c d p q = absurd q
below_less (r ∷ ranges) c d p (inl q) =
    let first = more_of r.first r.last c d p q.0 q.1 in
    let others = below_more ranges c d (omega (arith, p)) in
    omega (arith, first, others)
below_less (r ∷ ranges) c d p (inr q) =
    let first = no_fewer r.first r.last c d (omega (arith, p)) in
    let others = below_less ranges c d p q in
    omega (arith, first, others)

same_index : (ranges : List Range) (c d : ℕ) → (c < d) ⊎ ((c ≡ d) ⊎ (d < c)) → IsIn ranges c → IsIn ranges d
    → below ranges c ≡ below ranges d → c ≡ d
same_index ranges c d (inl o) p q e = let less = below_less ranges c d o p in absurd (omega (arith, less, e))
same_index ranges c d (inr (inl o)) p q e = o
same_index ranges c d (inr (inr o)) p q e = let less = below_less ranges d c o q in absurd (omega (arith, less, e))

same_code : (b : Bool) (ranges : List Range) (c d : ℕ) → IsIn ranges c → IsIn ranges d → code_by b ranges c ≡ code_by b ranges d
    → c ≡ d
same_code true ranges c d p q e = e
same_code false ranges c d p q e = same_index ranges c d (ordered c d) p q e

pub character_of_code : (aligned : Bool) (ranges : List Range) (i c d : ℕ) → HasCode aligned ranges i c → HasCode aligned ranges i d
    → c ≡ d
character_of_code aligned ranges i c d p q =
    same_code (are_within ranges (2 ^ width_of aligned ranges - 1)) ranges c d p.0 q.0 (sym p.1 ∙ q.1)

pub code_of_character : (aligned : Bool) (ranges : List Range) (i j c d : ℕ) → HasCode aligned ranges i c
    → HasCode aligned ranges j d → c ≡ d → i ≡ j
code_of_character aligned ranges i j c d p q e =
    p.1 ∙ ap (λ (x : ℕ). code_by (are_within ranges (2 ^ width_of aligned ranges - 1)) ranges x) e ∙ sym q.1

-- How shortest octets are known, and how they are ordered, by looking at octets alone.
use Rattle.std.specs.Prelude.{◌≡◌, ℕ, ◌<◌, ◌≤◌, List, [], ◌∷◌, length, ⊤, nat_le, Bool, false, if◌then◌else◌}
use Rattle.std.specs.declared.cmp.Ordering.{Ordering}
use Rattle.std.specs.declared.cmp.Ordering.TheVariants.{Less, Greater}
use Rattle.std.specs.Ordering.{nat_cmp, ordering_then}
use Rattle.std.specs.Cmp.Lexicographic.{slice_cmp}

-- the first octet and bit 8 of the second are neither all zeros nor all ones (X.690 8.3.2);
-- one octet always passes
abbrev pub NineBitsDiffer : List ℕ → Type 0
NineBitsDiffer [] = ⊥
NineBitsDiffer (b ∷ []) = ⊤
NineBitsDiffer (b ∷ c ∷ bs) = ((b ≡ 0) → 128 ≤ c) × ((b ≡ 255) → c < 128)

-- bit 8 of the first octet, the sign, is set
abbrev pub is_below_zero : List ℕ → Bool
is_below_zero [] = false
is_below_zero (b ∷ bs) = nat_le 128 b

-- by sign, then by length, then octet by octet: at and above zero the longer list is the greater,
-- below zero the smaller
abbrev pub octets_cmp : List ℕ → List ℕ → Ordering
octets_cmp a b =
    if is_below_zero a
    then (if is_below_zero b
    then ordering_then (nat_cmp (length b) (length a)) (slice_cmp nat_cmp a b)
    else Less)
    else (if is_below_zero b
    then Greater
    else ordering_then (nat_cmp (length a) (length b)) (slice_cmp nat_cmp a b))

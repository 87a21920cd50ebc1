-- Laws of the base sets: what they have, by their ranges.
use Rattle.std.proofs.Common.{◌≡◌, ℕ, suc, zero, ◌+◌, ◌-◌, ◌<◌, Bool, true, ◌&&◌, ◌||◌, eqb, leb, ltb, List, [], ◌∷◌, length, get_or, max, ◌≤◌, refl, sym, ◌∙◌, arith, inl, inr}
use Rattle.std.proofs.lemmas.Bool.{or_cases}
use Rattle.std.specs.List.{All, list_any, flat_map, fold, range_with_len}
use Rattle.std.proofs.lemmas.Bool.Decides.{nat_tests}
use Rattle.std.proofs.lemmas.List.Folds.{list_any-append}
use Rattle.asn1_characters.specs.Sets.{ranges_of, base_set, characters_between, has_character, largest}
use Rattle.asn1_characters.specs.declared.character_set.CharacterSetName.{CharacterSetName}

has_head : (a n c : ℕ) →
    (eqb a c || (leb (a + 1) c && ltb c (a + 1 + n))) ≡ (leb a c && ltb c (a + (suc n)))
has_head a n c = grind (arith, nat_tests)

-- a run of characters has what lies between its ends
pub has_in_run : (a n c : ℕ) → has_character (range_with_len a n) c ≡ (leb a c && ltb c (a + n))
has_in_run a zero c = grind (arith, nat_tests)
has_in_run a (suc n) c = rw (has_in_run (a + 1) n c) (has_head a n c)

ends : (a b c : ℕ) → (leb a c && ltb c (a + (b + 1 - a))) ≡ (leb a c && leb c b)
ends a b c = grind (arith, nat_tests)

-- a range has what lies between its ends
pub has_between : (r : ℕ × ℕ) (c : ℕ) →
    has_character (characters_between r) c ≡ (leb r.0 c && leb c r.1)
has_between r c = has_in_run r.0 (r.1 + 1 - r.0) c ∙ ends r.0 r.1 c

-- whether a character lies in one of the ranges
abbrev pub lies_in : List (ℕ × ℕ) → ℕ → Bool
lies_in ranges c = list_any (λ r. leb r.0 c && leb c r.1) ranges

-- ranges have what lies in one of them
pub has_in_ranges : (rs : List (ℕ × ℕ)) (c : ℕ) →
    has_character (flat_map characters_between rs) c ≡ lies_in rs c
has_in_ranges [] c = refl
has_in_ranges (r ∷ rs) c =
    list_any-append (λ x. eqb x c) (characters_between r) (flat_map characters_between rs)
    ∙ rw (has_between r c, has_in_ranges rs c) refl

-- a base set has what lies in its ranges
pub has_in_base : (name : CharacterSetName) (c : ℕ) →
    has_character (base_set name) c ≡ lies_in (ranges_of name) c
unfolding base_set
has_in_base name c = has_in_ranges (ranges_of name) c

-- each range ends below a limit
abbrev pub all_below : ℕ → List (ℕ × ℕ) → Bool
all_below limit [] = true
all_below limit (r ∷ rs) = ltb r.1 limit && all_below limit rs

lies_below : (limit c : ℕ) (rs : List (ℕ × ℕ)) → all_below limit rs ≡ true → lies_in rs c ≡ true →
    c < limit
lies_below limit c [] b h = cc
lies_below limit c (r ∷ rs) b h = grind (arith, nat_tests, lies_below limit c rs)

-- a character of the set is below a limit of its ranges
pub below_limit : (name : CharacterSetName) (limit : ℕ) →
    all_below limit (ranges_of name) ≡ true → (c : ℕ) → has_character (base_set name) c ≡ true →
    c < limit
below_limit name limit b c h = lies_below limit c (ranges_of name) b (sym (has_in_base name c) ∙ h)

fold_above : (set : List ℕ) (m : ℕ) → m ≤ fold max m set
fold_above [] m = omega arith
fold_above (x ∷ set) m = let up = fold_above set (max m x) in omega arith

below_fold : (set : List ℕ) (m i d : ℕ) → i < length set → get_or set i d ≤ fold max m set
below_fold [] m i d lt = absurd (omega arith)
below_fold (x ∷ set) m zero d lt = let up = fold_above set (max m x) in omega arith
below_fold (x ∷ set) m (suc i) d lt = below_fold set (max m x) i d (omega arith)

-- no character of a set is above the largest
pub no_larger : (set : List ℕ) → All (λ c. c ≤ largest set) set
no_larger set i d lt = below_fold set 0 i d lt

fold_within : (set : List ℕ) (m n : ℕ) → m ≤ n → ((i : ℕ) → i < length set → get_or set i 0 ≤ n) → fold max m set ≤ n
fold_within [] m n le each = le
fold_within (x ∷ set) m n le each =
    let here : x ≤ n = each 0 (omega arith) in
    fold_within set (max m x) n (omega arith) (λ i lt. each (suc i) (omega arith))

-- where no character is above a bound, the largest is not
pub largest_within : (set : List ℕ) (n : ℕ) → ((i : ℕ) → i < length set → get_or set i 0 ≤ n) → largest set ≤ n
largest_within set n each = fold_within set 0 n (omega arith) each

has_below : (set : List ℕ) (m c : ℕ) → has_character set c ≡ true → c ≤ fold max m set
has_below [] m c has = cc
has_below (x ∷ set) m c has =
    elim (or_cases (eqb x c) (has_character set c) has) [
      | inl same ↦ (let up = fold_above set (max m x) in let e : x ≡ c = grind (arith, nat_tests) in omega arith)
      | inr rest ↦ has_below set (max m x) c rest
    ]

pub not_above : (set : List ℕ) (c : ℕ) → has_character set c ≡ true → c ≤ largest set
not_above set c has = has_below set 0 c has

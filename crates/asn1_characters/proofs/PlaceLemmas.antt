-- Places in a base set.
use Rattle.std.proofs.Common.{◌≡◌, ℕ, suc, zero, ◌+◌, ◌-◌, ◌<◌, ◌≤◌, false, List, [], ◌∷◌, ◌++◌, length, get_or, take, Some, None, refl, ap, sym, ◌∙◌, arith}
use Rattle.std.specs.List.{flat_map, slice_get}
use Rattle.std.proofs.lemmas.Bool.Decides.{nat_tests}
use Rattle.std.proofs.lemmas.Option.{slice_get-get_or, slice_get_past}
use Rattle.std.proofs.lemmas.List.FromFn.{length-range_with_len, get_or-range_with_len}
use Rattle.asn1_characters.specs.Sets.{ranges_of, base_set, characters_between, has_character}
use Rattle.asn1_characters.specs.Laws.SetLaws.{has_in_base}
use Rattle.asn1_characters.specs.Laws.TableLaws.{counted, length-base_set}
use Rattle.asn1_characters.specs.declared.character_set.CharacterSetName.{CharacterSetName}
use Rattle.asn1_characters.specs.declared.character_set.CharacterSetName.TheVariants.{Numeric}

get_left : (xs ys : List ℕ) (k : ℕ) → k < length xs → slice_get (xs ++ ys) k ≡ slice_get xs k
get_left [] ys k lt = absurd (omega arith)
get_left (x ∷ xs) ys zero lt = refl
get_left (x ∷ xs) ys (suc k) lt = get_left xs ys k (omega arith)

get_right : (xs ys : List ℕ) (n k : ℕ) → length xs ≡ n → slice_get (xs ++ ys) (n + k) ≡ slice_get ys k
get_right [] ys n k e = ap (slice_get ys) (omega arith)
get_right (x ∷ xs) ys zero k e = absurd (omega arith)
get_right (x ∷ xs) ys (suc n) k e =
    let up : suc n + k ≡ suc (n + k) = omega arith in rw up (get_right xs ys n k (omega arith))

-- an index in the range at i
pub at_range : (rs : List (ℕ × ℕ)) (i j : ℕ) → i < length rs → j < (get_or rs i (0, 0)).1 + 1 - (get_or rs i (0, 0)).0
    → slice_get (flat_map characters_between rs) (counted (take i rs) + j) ≡ Some ((get_or rs i (0, 0)).0 + j)
at_range [] i j lt small = absurd (omega arith)
at_range (r ∷ rs) zero j lt small =
    let long = length-range_with_len r.0 (r.1 + 1 - r.0) in
    let here : slice_get (characters_between r ++ flat_map characters_between rs) j ≡ Some (r.0 + j) =
    get_left (characters_between r) (flat_map characters_between rs) j (omega arith)
    ∙ slice_get-get_or (characters_between r) j 0 (omega arith)
    ∙ ap Some (get_or-range_with_len r.0 (r.1 + 1 - r.0) j 0 small)
    in ap (slice_get (characters_between r ++ flat_map characters_between rs)) (let e : 0 + j ≡ j = omega arith in e)
    ∙ here
at_range (r ∷ rs) (suc i) j lt small =
    let regrouped : r.1 + 1 - r.0 + counted (take i rs) + j ≡ r.1 + 1 - r.0 + (counted (take i rs) + j) = omega arith in
    ap (slice_get (characters_between r ++ flat_map characters_between rs)) regrouped
    ∙ get_right (characters_between r) (flat_map characters_between rs) (r.1 + 1 - r.0) (counted (take i rs) + j)
    (length-range_with_len r.0 (r.1 + 1 - r.0))
    ∙ at_range rs i j (omega arith) small

-- one more range
pub counted_more : (rs : List (ℕ × ℕ)) (i : ℕ) → i < length rs
    → counted (take (i + 1) rs) ≡ counted (take i rs) + ((get_or rs i (0, 0)).1 + 1 - (get_or rs i (0, 0)).0)
counted_more [] i lt = absurd (omega arith)
counted_more (r ∷ rs) zero lt = omega arith
counted_more (r ∷ rs) (suc i) lt =
    let up : suc i + 1 ≡ suc (i + 1) = omega arith in
    let rest = counted_more rs i (omega arith) in
    rw up (omega arith)

pub counted_front : (rs : List (ℕ × ℕ)) (i : ℕ) → counted (take i rs) ≤ counted rs
counted_front [] zero = omega arith
counted_front [] (suc i) = omega arith
counted_front (r ∷ rs) zero = omega arith
counted_front (r ∷ rs) (suc i) = omega (arith, counted_front rs i)

pub base_is : (name : CharacterSetName) → base_set name ≡ flat_map characters_between (ranges_of name)
unfolding base_set
base_is name = refl

-- the digits of `NumericString` are at the indices from 1 to 10, after the space
pub digit_at : (place : ℕ) → 1 ≤ place → place ≤ 10 → slice_get (base_set Numeric) place ≡ Some (47 + place)
digit_at place low high =
    let j = place - 1 in
    let at : slice_get (flat_map characters_between (ranges_of Numeric)) (1 + j) ≡ Some (48 + j) =
    at_range (ranges_of Numeric) 1 j (omega arith) (omega arith) in
    let same : 1 + j ≡ place = omega arith in
    let value : 48 + j ≡ 47 + place = omega arith in
    rw (base_is Numeric) (ap (slice_get (flat_map characters_between (ranges_of Numeric))) (sym same) ∙ at
    ∙ ap Some value)

pub space_at : slice_get (base_set Numeric) 0 ≡ Some 32
space_at = rw (base_is Numeric) (at_range (ranges_of Numeric) 0 0 (omega arith) (omega arith))

pub numeric_past : (place : ℕ) → 11 ≤ place → slice_get (base_set Numeric) place ≡ None
numeric_past place past = slice_get_past (base_set Numeric) place (omega (arith, length-base_set Numeric))

pub numeric_lacks : (c : ℕ) → (c ≡ 32 → ⊥) → (48 ≤ c → c ≤ 57 → ⊥) → has_character (base_set Numeric) c ≡ false
numeric_lacks c other outside =
    has_in_base Numeric c ∙ grind (arith, nat_tests, outside)

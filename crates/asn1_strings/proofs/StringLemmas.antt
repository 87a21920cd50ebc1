-- The first character that a set lacks.
use Rattle.std.proofs.Common.{◌≡◌, ℕ, suc, zero, ◌<◌, Bool, true, false, not, List, [], ◌∷◌, length, get_or, Some, None, Ok, Err, refl, ap, arith}
use Rattle.std.specs.List.{All, find}
use Rattle.std.specs.Option.{option_map_or}
use Rattle.std.proofs.lemmas.List.{get_or_default}
use Rattle.asn1_characters.specs.Sets.{base_set, has_character}
use Rattle.asn1_characters.specs.Errors.{own_error}
use Rattle.asn1_strings.specs.Strings.{string_of_characters}
use Rattle.asn1_characters.specs.declared.character_set.CharacterSetName.{CharacterSetName}
use Rattle.asn1_characters.specs.declared.error.PermittedAlphabetError.TheVariants.{InvalidRestrictedString}

pub find_first : (p : ℕ → Bool) (xs : List ℕ) (i : ℕ) → i < length xs → ((k : ℕ) → k < i → p (get_or xs k 0) ≡ false)
    → p (get_or xs i 0) ≡ true → find p xs ≡ Some (get_or xs i 0)
find_first p [] i lt before here = absurd (omega arith)
find_first p (x ∷ xs) zero lt before here = rw here refl
find_first p (x ∷ xs) (suc i) lt before here =
    rw (before 0 (omega arith)) (find_first p xs i (omega arith) (λ k h. before (suc k) (omega arith)) here)

pub find_nothing : (p : ℕ → Bool) (xs : List ℕ) → ((k : ℕ) → k < length xs → p (get_or xs k 0) ≡ false)
    → find p xs ≡ None
find_nothing p [] none = refl
find_nothing p (x ∷ xs) none = rw (none 0 (omega arith)) (find_nothing p xs (λ k h. none (suc k) (omega arith)))

-- the string fails for its first invalid character
pub string_of_wrong : (name : CharacterSetName) (cs : List ℕ) (i : ℕ) → i < length cs
    → ((k : ℕ) → k < i → has_character (base_set name) (get_or cs k 0) ≡ true)
    → has_character (base_set name) (get_or cs i 0) ≡ false
    → string_of_characters name cs ≡ Err (InvalidRestrictedString (own_error name (get_or cs i 0)))
string_of_wrong name cs i lt before here =
    ap (λ o. option_map_or (λ c. Err (InvalidRestrictedString (own_error name c))) o (Ok cs))
    (find_first (λ c. not (has_character (base_set name) c)) cs i lt (λ k h. ap not (before k h)) (ap not here))

-- the characters are a string where each is right
pub string_of_right : (name : CharacterSetName) (cs : List ℕ)
    → ((k : ℕ) → k < length cs → has_character (base_set name) (get_or cs k 0) ≡ true)
    → string_of_characters name cs ≡ Ok cs
string_of_right name cs all =
    ap (λ o. option_map_or (λ c. Err (InvalidRestrictedString (own_error name c))) o (Ok cs))
    (find_nothing (λ c. not (has_character (base_set name) c)) cs (λ k h. ap not (all k h)))

-- what holds at each index holds of all characters
pub all_right : (set cs : List ℕ) → ((k : ℕ) → k < length cs → has_character set (get_or cs k 0) ≡ true)
    → All (λ c. has_character set c ≡ true) cs
all_right set cs all i d lt = rw (get_or_default cs i d 0 lt) (all i lt)

-- The alphabets that characters are written in (X.691 30.5).
use Rattle.std.specs.Prelude.{◌≡◌, ◌^◌, ◌<◌, ◌||◌, ℕ, Bool, true, List, length, max, Option, Some, None, Result, nat_le, nat_lt, slice_get, MatchBool, MatchResult, if◌then◌else◌}
use Rattle.std.specs.List.Sorted.{IsNonDecreasing}
use Rattle.asn1_characters.specs.Widths.{ceil_log2, align, width_for}
use Rattle.asn1_characters.specs.Sets.{base_set, base_width, base_indexed, has_character, largest}
use Rattle.asn1_characters.specs.Errors.{own_error}
use Rattle.asn1_characters.specs.declared.character_set.CharacterSetName.{CharacterSetName}
use Rattle.asn1_characters.specs.declared.error.PermittedAlphabetError.{PermittedAlphabetError}
use Rattle.asn1_characters.specs.declared.error.PermittedAlphabetError.TheVariants.{CharacterNotFound, IndexNotFound, InvalidRestrictedString}

-- where an alphabet's set comes from, which tells its error: it is a permitted set, or the base
-- set of a string
pub data Origin : Type 0 where
  Permitted : Origin
  BaseOf : CharacterSetName → Origin

-- an alphabet: its set, the width of its characters in bits, whether they are written by their
-- indices, and its origin
pub record Alphabet : Type 0 where
  pub characters : List ℕ
  pub width : ℕ
  pub indexed : Bool
  pub origin : Origin

-- Whether the permitted alphabet takes effect: where the unrestricted type is itself written by
-- index (`NumericString`), or where a code of the unrestricted type is wider than one of the
-- permitted alphabet. `count` is how many characters it has.
abbrev pub keeps : CharacterSetName → Bool → ℕ → Bool
keeps name aligned count =
    base_indexed name || nat_lt (align aligned (ceil_log2 (max count 1))) (base_width name)

-- the permitted set, where there is one and it is kept
abbrev pub kept_set : CharacterSetName → Option (List ℕ) → Bool → Option (List ℕ)
kept_set name None aligned = None
kept_set name (Some set) aligned = if keeps name aligned (length set) then Some set else None

-- The effective alphabet: the permitted alphabet where it takes effect, otherwise all characters of the
-- type.
abbrev pub counting_set : CharacterSetName → Option (List ℕ) → List ℕ
counting_set name None = base_set name
counting_set name (Some set) = set

abbrev pub origin_of : CharacterSetName → Option (List ℕ) → Origin
origin_of name None = BaseOf name
origin_of name (Some set) = Permitted

-- whether characters of a set are written by their indices, since the largest does not fit the width
abbrev pub is_indexed : ℕ → List ℕ → Bool
is_indexed width set = nat_le (2 ^ width) (largest set)

-- the alphabet of a string and of the set that was kept
abbrev pub alphabet_on : CharacterSetName → Option (List ℕ) → Bool → Alphabet
alphabet_on name kept aligned =
    let set = counting_set name kept in
    let width = width_for aligned (length set) in
    record {
      characters = set;
      width = width;
      indexed = is_indexed width set;
      origin = origin_of name kept;
    }

-- the alphabet of a string with a permitted set
abbrev pub effective : CharacterSetName → Option (List ℕ) → Bool → Alphabet
effective name permitted aligned = alphabet_on name (kept_set name permitted aligned) aligned

-- k is a code of the character c: in an indexed alphabet an index of it, otherwise c itself, where it is
-- in the set
abbrev pub IsCode : Alphabet → ℕ → ℕ → Type 0
IsCode alphabet c k =
    MatchBool alphabet.indexed (slice_get alphabet.characters k ≡ Some c)
    ((has_character alphabet.characters c ≡ true) × (k ≡ c))

-- the error of an alphabet for a character
abbrev pub missing_from : Origin → ℕ → PermittedAlphabetError
missing_from Permitted c = CharacterNotFound c
missing_from (BaseOf name) c = InvalidRestrictedString (own_error name c)

-- the error of a character without a code
abbrev pub missing_error : Alphabet → ℕ → PermittedAlphabetError
missing_error alphabet c = missing_from alphabet.origin c

-- the error of a number that is no code
abbrev pub uncoded_error : Alphabet → ℕ → PermittedAlphabetError
uncoded_error alphabet k =
    if alphabet.indexed then IndexNotFound k else missing_from alphabet.origin k

-- the result is a code of the character, which fits the width, or its error where it has none
abbrev pub Encodes : Alphabet → ℕ → Result ℕ PermittedAlphabetError → Type 0
Encodes alphabet c result =
    MatchResult result (λ k. IsCode alphabet c k × (k < 2 ^ alphabet.width))
    (λ e. (e ≡ missing_error alphabet c) × ((k : ℕ) → ¬ (IsCode alphabet c k)))

-- the result is the character of the code, or the code's error where it has none
abbrev pub Decodes : Alphabet → ℕ → Result ℕ PermittedAlphabetError → Type 0
Decodes alphabet k result =
    MatchResult result (λ c. IsCode alphabet c k)
    (λ e. (e ≡ uncoded_error alphabet k) × ((c : ℕ) → ¬ (IsCode alphabet c k)))

-- the set is ascending, no character below the one before it, and long enough for a binary
-- search
abbrev pub IsLongAscending : List ℕ → Type 0
IsLongAscending set = IsNonDecreasing set × (64 < length set)

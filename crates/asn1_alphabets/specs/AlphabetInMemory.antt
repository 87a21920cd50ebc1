-- What is known of an alphabet in memory.
use Rattle.std.specs.Prelude.{◌≡◌, ◌+◌, ◌^◌, ◌<◌, ◌≤◌, ℕ, Bool, true, false, IsNone, List, length, slice_index, Option, Some, None}
use Rattle.std.specs.List.{range_with_len}
use Rattle.std.specs.Option.{ForSome, option_copied}
use Rattle.std.specs.Borrow.{Bor}
use Rattle.std.specs.List.Sorted.{IsNonDecreasing}
use Rattle.asn1_characters.specs.Sets.{has_character, largest, is_listed}
use Rattle.asn1_characters.specs.Words.{in_words}
use Rattle.asn1_alphabets.specs.Alphabet.{counting_set, is_indexed}
use Rattle.asn1_characters.specs.declared.character_set.CharacterSetName.{CharacterSetName}
use Rattle.asn1_characters.specs.declared.character_words.CharacterWords.{CharacterWords}

-- the value, where there is one
abbrev pub some_if : {A : Type 0} → Bool → A → Option A
some_if true value = Some value
some_if false value = None

-- the set that counts, where a permitted set that was kept is borrowed
abbrev pub set_of : CharacterSetName → Option (Bor (List ℕ)) → List ℕ
set_of name kept = counting_set name (option_copied kept)

-- the words, where there are any, have the set's characters, all of which are below 256
pub record HasWords (set : List ℕ) (words : CharacterWords) : Type 0 where
  pub below : largest set < 256
  pub same : (c : ℕ) → c < 256 → in_words words.words c ≡ has_character set c

-- At least one character; each is one more than the one before it; and one more than the last is
-- still below 2^32.
pub record IsRun (set : List ℕ) : Type 0 where
  pub some : 0 < length set
  pub gapless : set ≡ range_with_len (slice_index set 0) (length set)
  pub ends : slice_index set 0 + length set < 2 ^ 32

-- whether a set is seen to leave no gap: a permitted set wherever it leaves none, a base set
-- exactly where it lies in memory
abbrev pub IsSeenRun : CharacterSetName → Option (List ℕ) → Bool → Type 0
IsSeenRun name kept run =
    ((set : List ℕ) → kept ≡ Some set → IsRun set → run ≡ true) × (kept ≡ None → run ≡ is_listed name)

-- What the fields of an alphabet say of the set that counts. `ascending` is of permitted sets
-- alone: a base set needs no search, since none that is written by places has more than 64
-- characters.
pub record IsKnown (name : CharacterSetName) (kept : Bool) (set : Bor (List ℕ)) (width : ℕ)
    (indexed ascending run : Bool) (words : Option CharacterWords) : Type 0 where
  pub narrow : width ≤ 32
  pub few : length (set_of name (some_if kept set)) ≤ 2 ^ 32
  pub room : length (set_of name (some_if kept set)) ≤ 2 ^ width
  pub by_place : indexed ≡ is_indexed width (set_of name (some_if kept set))
  pub layout : run ≡ true → set.now ≡ set_of name (some_if kept set)
  pub ascends : ascending ≡ true → IsNonDecreasing (set_of name (some_if kept set))
  pub not_ascending : ascending ≡ false → kept ≡ true → ¬ (IsNonDecreasing (set_of name (some_if kept set)))
  pub gapless : run ≡ true → IsRun (set_of name (some_if kept set))
  pub seen : IsSeenRun name (option_copied (some_if kept set)) run
  pub few_places : kept ≡ false → indexed ≡ true → length (set_of name (some_if kept set)) ≤ 64
  pub has_words : ForSome words (HasWords (set_of name (some_if kept set)))
  pub wordless : IsNone words → run ≡ false → 256 ≤ largest (set_of name (some_if kept set))

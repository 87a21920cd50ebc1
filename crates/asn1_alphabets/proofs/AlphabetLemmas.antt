-- What is known of alphabets in memory.
use Rattle.std.proofs.Common.{◌≡◌, ℕ, ◌≤◌, ◌^◌, Bool, true, false, ◌&&◌, leb, ltb, List, length, Option, Some, None, lit≤, ◌<◌, refl, sym, arith, inl, inr}
use Rattle.std.specs.List.{slice_get}
use Rattle.std.proofs.lemmas.Bool.{cases_lt}
use Rattle.std.proofs.lemmas.Bool.Decides.{nat_tests}
use Rattle.std.specs.Option.{MatchOption}
use Rattle.asn1_characters.specs.Words.{in_words}
use Rattle.asn1_characters.specs.Laws.SetLaws.{not_above}
use Rattle.asn1_alphabets.specs.Laws.AlphabetLaws.{stands_in}
use Rattle.std.specs.Borrow.{Bor}
use Rattle.std.specs.Option.{is_some, ForSome}
use Rattle.asn1_characters.specs.Sets.{base_set, has_character, largest}
use Rattle.asn1_characters.specs.Widths.{ceil_log2, least_from, width_for}
use Rattle.asn1_alphabets.specs.Alphabet.{is_indexed}
use Rattle.asn1_alphabets.specs.AlphabetInMemory.{some_if, set_of, HasWords}
use Rattle.asn1_characters.specs.Laws.TableLaws.{length-base_set, largest-base_set}
use Rattle.asn1_characters.specs.declared.character_set.CharacterSetName.{CharacterSetName}
use Rattle.asn1_characters.specs.declared.character_words.CharacterWords.{CharacterWords}
use Rattle.asn1_characters.specs.declared.character_set.CharacterSetName.TheVariants.{Bmp, General, Graphic, IA5, Numeric, Printable, Teletex, Visible}

-- how many characters the sets have, and the largest of each
abbrev count_in_table : CharacterSetName → ℕ
count_in_table Bmp = 65534
count_in_table General = 223
count_in_table Graphic = 190
count_in_table IA5 = 128
count_in_table Numeric = 11
count_in_table Printable = 74
count_in_table Teletex = 256
count_in_table Visible = 95

abbrev largest_in_table : CharacterSetName → ℕ
largest_in_table Bmp = 0xFFFD
largest_in_table General = 0xFF
largest_in_table Graphic = 0xFF
largest_in_table IA5 = 0x7F
largest_in_table Numeric = 0x39
largest_in_table Printable = 0x7A
largest_in_table Teletex = 0xFF
largest_in_table Visible = 0x7E

in_table : (name : CharacterSetName) → (length (base_set name) ≡ count_in_table name)
    × (largest (base_set name) ≡ largest_in_table name)
in_table Bmp = (length-base_set Bmp, largest-base_set Bmp)
in_table General = (length-base_set General, largest-base_set General)
in_table Graphic = (length-base_set Graphic, largest-base_set Graphic)
in_table IA5 = (length-base_set IA5, largest-base_set IA5)
in_table Numeric = (length-base_set Numeric, largest-base_set Numeric)
in_table Printable = (length-base_set Printable, largest-base_set Printable)
in_table Teletex = (length-base_set Teletex, largest-base_set Teletex)
in_table Visible = (length-base_set Visible, largest-base_set Visible)

by_places : (name : CharacterSetName) (aligned : Bool)
    → leb (2 ^ width_for aligned (count_in_table name)) (largest_in_table name) ≡ true → count_in_table name ≤ 64
unfolding ceil_log2 least_from
by_places Bmp true e = cc
by_places Bmp false e = cc
by_places General true e = cc
by_places General false e = cc
by_places Graphic true e = cc
by_places Graphic false e = cc
by_places IA5 true e = cc
by_places IA5 false e = cc
by_places Numeric aligned e = lit≤ tt
by_places Printable true e = cc
by_places Printable false e = cc
by_places Teletex true e = cc
by_places Teletex false e = cc
by_places Visible true e = cc
by_places Visible false e = cc

base_by_places : (name : CharacterSetName) (aligned : Bool)
    → is_indexed (width_for aligned (length (base_set name))) (base_set name) ≡ true → length (base_set name) ≤ 64
base_by_places name aligned e =
    let table = in_table name in rw table.0 (by_places name aligned (rw (table.0, table.1) at e))

-- a base set that is written by places has few characters
pub few_places : (name : CharacterSetName) (kept : Option (Bor (List ℕ))) (aligned : Bool) → is_some kept ≡ false
    → is_indexed (width_for aligned (length (set_of name kept))) (set_of name kept) ≡ true
    → length (set_of name kept) ≤ 64
few_places name None aligned none by = base_by_places name aligned by
few_places name (Some set) aligned none by = cc

none_is : (b : Bool) → (b ≡ true → ⊥) → b ≡ false
none_is true none = absurd (none refl)
none_is false none = refl

-- a set whose characters are below 256 has none from 256 on
pub none_from : (set : List ℕ) (c : ℕ) → largest set < 256 → 256 ≤ c → has_character set c ≡ false
none_from set c below ge = none_is (has_character set c) (λ has. let most = not_above set c has in omega arith)

-- words tell what their set has, below 256 and above
pub has_by_words : (set : List ℕ) (words : CharacterWords) (c : ℕ) → HasWords set words
    → (ltb c 256 && in_words words.words c) ≡ has_character set c
has_by_words set words c has_words = elim (cases_lt c 256) [
  | inl lt ↦ (let below : ltb c 256 ≡ true = grind (arith, nat_tests) in rw below (has_words.same c lt))
  | inr ge ↦ (let above : ltb c 256 ≡ false =
      grind (arith, nat_tests) in rw above (sym (none_from set c has_words.below ge)))
]

-- an index was found exactly if the set has the character
pub found_is : (set : List ℕ) (c : ℕ) (o : Option ℕ)
    → MatchOption o (has_character set c ≡ false) (λ k. slice_get set k ≡ Some c) → is_some o ≡ has_character set c
found_is set c None none = sym none
found_is set c (Some k) place = sym (stands_in set k c place)

-- a value that is kept is present
pub is_some_if : {A : Type 0} (kept : Bool) (value : A) (o : Option A) → some_if kept value ≡ o → kept ≡ true
    → is_some o ≡ true
is_some_if true value o same told = rw (sym same) refl
is_some_if false value o same told = cc

pub none_if : {A : Type 0} (kept : Bool) (value : A) (o : Option A) → some_if kept value ≡ o → kept ≡ false
    → is_some o ≡ false
none_if true value o same told = cc
none_if false value o same told = rw (sym same) refl

-- words that are present, and have the set's characters
pub some_words : (set : List ℕ) (words : CharacterWords) → HasWords set words → ForSome (Some words) (HasWords set)
some_words set words has_words x e = let is : words ≡ x = cc in rw is at has_words

-- Characters that were written.
use Rattle.std.specs.Prelude.{◌≡◌, ℕ, ◌+◌, ◌*◌, ◌%◌, ◌^◌, ◌<◌, ◌≤◌, Bool, List, length}
use Rattle.std.specs.List.{AllByRecursion}
use Rattle.asn1_schema.specs.declared.part.Characters.{Characters}
use Rattle.asn1_schema.specs.declared.part.Codes.TheVariants.{Numbers}
use Rattle.asn1_x690.specs.Leaves.{AreCharacters}
use Rattle.asn1_x691_writers.specs.Written.{IsGrown}

-- each character has `width` bits
abbrev pub AreWithin : ℕ → List ℕ → Type 0
AreWithin width text = AllByRecursion (λ c. c < 2 ^ width) text

-- the characters are numbers of `width` bits, which are in the source
pub record ArePlain (source : List ℕ) (width : ℕ) (text : Characters) : Type 0 where
  pub numbers : text.codes ≡ Numbers
  pub size : text.width ≡ width
  pub inside : text.at + width * text.count ≤ 8 * length source

pub record IsTextWritten (width : ℕ) (text : List ℕ) (was : List ℕ) (old : ℕ) (now : List ℕ) (new : ℕ) : Type 0 where
  pub list : List Bool
  pub encodes : AreCharacters width text list
  pub whole : length list % 8 ≡ 0
  pub grown : IsGrown was old now new list

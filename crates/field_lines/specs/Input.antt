-- What the three lines of an input say. 10 is the octet of an LF, 32 that of a space.
use Rattle.std.specs.Prelude.{◌≡◌, ◌≢◌, ℕ, ◌^◌, ◌<◌, ◌==◌, ◌⊎◌, List, [], ◌∷◌, ◌++◌, None, false, codes}
use Rattle.std.specs.List.{AllZip, slice_split}
use Rattle.std.specs.Fmt.{decimal}
use Rattle.asn1_values.specs.Fields.{Shape, OfNumber, OfOctets, OfBits, OfInteger, OfCharacter, OfCountedInteger, OfIdentifier}
use Rattle.asn1_values.specs.Words.{effective, Numeric}

-- the lines of shapes, of octets and of the first bit
pub record Lines : Type 0 where
  pub shapes : List ℕ
  pub octets : List ℕ
  pub start : List ℕ

-- the parts of the text between its LFs
abbrev pub parts : List ℕ → List (List ℕ)
parts text = slice_split (λ c. c == 10) text

-- these parts end a text by a line with its LF, or by one without it, which is not empty then
abbrev pub IsLastLine : List (List ℕ) → List ℕ → Type 0
IsLastLine ends line = (ends ≡ line ∷ [] ∷ []) ⊎ ((ends ≡ line ∷ []) × (line ≢ []))

-- the text is the line of shapes, that of octets and that of the first bit; the LF of the last may
-- be missing
abbrev pub AreLines : List ℕ → Lines → Type 0
AreLines text lines =
    (ends : List (List ℕ)) × (parts text ≡ lines.shapes ∷ lines.octets ∷ ends) × IsLastLine ends lines.start

-- the text is the decimal of the number, which is below a thousand million: one to nine digits,
-- without a leading zero unless the number is 0
abbrev pub IsNumber : List ℕ → ℕ → Type 0
IsNumber text n = (text ≡ decimal n) × (n < 10 ^ 9)

-- the word names the shape: a letter alone, or a letter and a number
abbrev pub IsWord : List ℕ → Shape → Type 0
IsWord word (OfNumber width) = (word ≡ codes "n" ++ decimal width) × (width < 10 ^ 9)
IsWord word (OfOctets count) = (word ≡ codes "o" ++ decimal count) × (count < 10 ^ 9)
IsWord word (OfBits len) = (word ≡ codes "b" ++ decimal len) × (len < 10 ^ 9)
IsWord word (OfInteger count) = (word ≡ codes "i" ++ decimal count) × (count < 10 ^ 9)
IsWord word (OfIdentifier count) = (word ≡ codes "d" ++ decimal count) × (count < 10 ^ 9)
IsWord word (OfCharacter alphabet) = (word ≡ codes "a") × (alphabet ≡ effective Numeric None false)
IsWord word OfCountedInteger = word ≡ codes "c"

-- the line is empty and names no shape, or each of its parts between single spaces is a word, and
-- names one
abbrev pub AreWords : List ℕ → List Shape → Type 0
AreWords [] shapes = shapes ≡ []
AreWords (c ∷ cs) shapes = AllZip IsWord (slice_split (λ c. c == 32) (c ∷ cs)) shapes

-- Fields, their shapes, and the bits that encode them.
use Rattle.std.specs.Prelude.{◌≡◌, ℕ, ℤ, ◌+◌, ◌*◌, ◌^◌, ◌<◌, ◌≤◌, ◌⊎◌, Bool, List, [], ◌∷◌, ◌++◌, length, All, Option, Some, None, ⊤}
use Rattle.std.specs.List.{AllZip, AllByRecursion}
use Rattle.asn1_bits.specs.Bits.{digits, bits}
use Rattle.asn1_number.specs.Octets.{IsShortest}
use Rattle.asn1_oid.specs.Contents.{IsContents, FitU32}
use Rattle.asn1_alphabets.specs.Alphabet.{Alphabet, IsCode}
use Rattle.asn1_bits.specs.Joined.{AreJoined}

-- what a field says, whatever storage holds it
pub data Field : Type 0 where
  Number : ℕ → ℕ → Field
  Octets : List ℕ → Field
  Bits : List Bool → Field
  Integer : ℤ → Field
  Character : Alphabet → ℕ → Field
  CountedInteger : ℤ → Field
  Identifier : List ℕ → Field

pub data Shape : Type 0 where
  OfNumber : ℕ → Shape
  OfOctets : ℕ → Shape
  OfBits : ℕ → Shape
  OfInteger : ℕ → Shape
  OfCharacter : Alphabet → Shape
  OfCountedInteger : Shape
  OfIdentifier : ℕ → Shape

-- the field is encoded by the bits: a number by its binary digits in its width, octets by their
-- bits, bits by themselves, an integer by the bits of its shortest octets (X.690 8.3), a character
-- by the digits of a code in the width of its alphabet (X.691 30.5), a counted integer by the bits
-- of one octet with the number of its shortest octets, at most 127, and of these (the short form of
-- a length, X.690 8.1.3.4, and contents), an identifier by the bits of its contents (X.690 8.19)
abbrev pub IsSpelledBy : Field → List Bool → Type 0
IsSpelledBy (Number value width) list = (width ≤ 128) × (value < 2 ^ width) × (list ≡ digits value width)
IsSpelledBy (Octets octets) list = All (λ octet. octet < 256) octets × (list ≡ bits octets)
IsSpelledBy (Bits view) list = list ≡ view
IsSpelledBy (Integer n) list = (octets : List ℕ) × IsShortest n octets × (list ≡ bits octets)
IsSpelledBy (Character alphabet c) list = (k : ℕ) × IsCode alphabet c k × (list ≡ digits k alphabet.width)
IsSpelledBy (CountedInteger n) list =
    (octets : List ℕ) × IsShortest n octets × (length octets ≤ 127) × (list ≡ bits (length octets ∷ octets))
IsSpelledBy (Identifier arcs) list = (octets : List ℕ) × IsContents arcs octets × FitU32 arcs × (list ≡ bits octets)

-- the contents of the arcs have `count` octets; those of one arc, which has none, have 0
abbrev pub HasContentsLength : List ℕ → ℕ → Type 0
HasContentsLength arcs count =
    ((octets : List ℕ) × IsContents arcs octets × (length octets ≡ count)) ⊎ ((length arcs ≡ 1) × (count ≡ 0))

-- the field is of the shape
abbrev pub IsOfShape : Field → Shape → Type 0
IsOfShape (Number value width) (OfNumber w) = width ≡ w
IsOfShape (Octets octets) (OfOctets count) = length octets ≡ count
IsOfShape (Bits view) (OfBits len) = length view ≡ len
IsOfShape (Integer n) (OfInteger count) = (octets : List ℕ) × IsShortest n octets × (length octets ≡ count)
IsOfShape (Character alphabet c) (OfCharacter a) = alphabet ≡ a
IsOfShape (CountedInteger n) OfCountedInteger = ⊤
IsOfShape (Identifier arcs) (OfIdentifier count) = HasContentsLength arcs count
IsOfShape field shape = ⊥

-- the octets of the field's contents, if it is an identifier, are so few that a shape can name
-- their number
abbrev pub HasShape : Field → Type 0
HasShape (Identifier arcs) = (octets : List ℕ) → IsContents arcs octets → length octets < 2 ^ 64
HasShape field = ⊤

-- how many bits encode a field of the shape, where all fields of it have as many
abbrev pub need : Shape → Option ℕ
need (OfNumber width) = Some width
need (OfOctets count) = Some (8 * count)
need (OfBits len) = Some len
need (OfInteger count) = Some (8 * count)
need (OfCharacter alphabet) = Some alphabet.width
need OfCountedInteger = None
need (OfIdentifier count) = Some (8 * count)

-- the sum, where both are known
abbrev pub sum_known : Option ℕ → Option ℕ → Option ℕ
sum_known (Some m) (Some n) = Some (m + n)
sum_known m n = None

-- how many bits encode fields of the shapes, where each of them has its number of bits
abbrev pub needs : List Shape → Option ℕ
needs [] = Some 0
needs (shape ∷ shapes) = sum_known (need shape) (needs shapes)

-- the list is the concatenation of the fields' encodings
abbrev pub AreSpelledBy : List Field → List Bool → Type 0
AreSpelledBy fields list = AreJoined IsSpelledBy fields list

-- no encoding of a field begins the encoding of another field of the same shape
abbrev pub NoSpellingBeginsAnother : Shape → Type 0
NoSpellingBeginsAnother shape =
    (x y : Field) (front rest : List Bool) → IsOfShape x shape → IsOfShape y shape
    → IsSpelledBy x front → IsSpelledBy y (front ++ rest) → (x ≡ y) × (rest ≡ [])

-- no concatenation of fields of these shapes begins that of other fields of them
abbrev pub NoneBeginsAnother : List Shape → Type 0
NoneBeginsAnother shapes =
    (xs ys : List Field) (front rest : List Bool) → AllZip IsOfShape xs shapes → AllZip IsOfShape ys shapes
    → AreSpelledBy xs front → AreSpelledBy ys (front ++ rest) → (xs ≡ ys) × (rest ≡ [])

-- the list begins with fields of these shapes, and the rest follows
pub record Begins (list : List Bool) (shapes : List Shape) (fields : List Field) (rest : List Bool) : Type 0 where
  pub of_shapes : AllZip IsOfShape fields shapes
  pub front : List Bool
  pub spelled : AreSpelledBy fields front
  pub parts : list ≡ front ++ rest

-- ---- alphabets that repeat a character

-- no character has two codes, as where the alphabet is not written by places, or repeats no
-- character
abbrev pub GivesOneCodeEach : Alphabet → Type 0
GivesOneCodeEach alphabet = (c j k : ℕ) → IsCode alphabet c j → IsCode alphabet c k → j ≡ k

abbrev pub HasOneSpelling : Field → Type 0
HasOneSpelling (Character alphabet c) = GivesOneCodeEach alphabet
HasOneSpelling field = ⊤

-- no alphabet that the fields use has a character with two codes
abbrev pub HaveOneSpelling : List Field → Type 0
HaveOneSpelling fields = AllByRecursion HasOneSpelling fields

abbrev pub GivesOneSpelling : Shape → Type 0
GivesOneSpelling (OfCharacter alphabet) = GivesOneCodeEach alphabet
GivesOneSpelling shape = ⊤

-- no alphabet that the shapes name has a character with two codes
abbrev pub GiveOneSpelling : List Shape → Type 0
GiveOneSpelling shapes = AllByRecursion GivesOneSpelling shapes

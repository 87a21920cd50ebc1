-- Types of one part in canonical PER (X.691), both variants.
use Rattle.std.specs.Prelude.{ℕ, ℤ, pos, ◌+ℤ◌, ◌<ℤ◌, ◌≤ℤ◌, ◌+◌, ◌<◌, nat_lt, Bool, true, false, List, length, ◌≡◌, ◌⊎◌, [], ◌∷◌, ◌++◌, ⊤}
use Rattle.asn1_schema.specs.declared.tables.Range.{Range}
use Rattle.asn1_schema.specs.declared.tables.Length.{Length}
use Rattle.asn1_schema.specs.declared.tables.Length.TheVariants.{AtLeast, Between}
use Rattle.asn1_schema.specs.Pieces.{Piece, Integer, Enumerated, UnknownEnumerated, Bits, Octets, Text}
use Rattle.asn1_schema.specs.Encodings.{Encoding, permitted}
use Rattle.asn1_schema.specs.TypeEncodings.{TypeEncoding, leaf, header, either_by_bit}
use Rattle.asn1_x691.specs.declared.fault.FaultKind.{FaultKind}
use Rattle.asn1_x691.specs.declared.fault.FaultKind.TheVariants.{InRoot, NotTrimmed, Contents}
use Rattle.asn1_x691.specs.Fields.{constrained, semi_constrained, unconstrained, small_number}
use Rattle.asn1_x691.specs.Fragments.{octets}
use Rattle.asn1_x691.specs.Characters.{text_of, added_text, IsAddedText}
use Rattle.asn1_x691.specs.Strings.{bit, string_of, added_string, AreAdded}

-- an extension bit: 0 and a value of the root, or 1 and a value whose first piece is `Added`
abbrev pub by_extension_bit : ℕ → (Piece → Type 0) → (ℕ → TypeEncoding FaultKind) → (ℕ → TypeEncoding FaultKind) → ℕ
    → TypeEncoding FaultKind
by_extension_bit node Added root extension = header (bit node) 1 (either_by_bit Added node root extension) node

-- ---- INTEGER (13)

-- the value is so far above the least
abbrev pub from_least : ℤ → ℕ → Piece
from_least least d = Integer (least +ℤ pos d)

-- of the values of an INTEGER with an extension marker, those of the root, and all others
abbrev pub IsBetween : ℤ → ℕ → ℤ → Type 0
IsBetween least range n = (least ≤ℤ n) × (n ≤ℤ (least +ℤ pos range))

abbrev pub IsOutside : ℤ → ℕ → ℤ → Type 0
IsOutside least range n = (n <ℤ least) ⊎ ((least +ℤ pos range) <ℤ n)

abbrev pub IsAddedInteger : (ℤ → Type 0) → Piece → Type 0
IsAddedInteger Added (Integer n) = Added n
IsAddedInteger Added p = ⊥

-- ---- ENUMERATED (14)

-- an addition, by its index among the additions: the value of that index after the root, where it is known
abbrev pub added_value : ℕ → Bool → ℕ → Piece
added_value last false i = UnknownEnumerated i
added_value last true i = Enumerated (last + 1 + i)

abbrev pub value_of_addition : ℕ → ℕ → ℕ → Piece
value_of_addition last known i = added_value last (nat_lt i known) i

abbrev pub IsAddedValue : ℕ → Piece → Type 0
IsAddedValue last (Enumerated i) = last < i
IsAddedValue last (UnknownEnumerated i) = ⊤
IsAddedValue last p = ⊥

-- ---- BIT STRING (16), OCTET STRING (17)

abbrev pub AreAddedBits : Length → Piece → Type 0
AreAddedBits size (Bits bits) = AreAdded 1 size bits
AreAddedBits size p = ⊥

abbrev pub AreAddedOctets : Length → Piece → Type 0
AreAddedOctets size (Octets bits) = AreAdded 8 size bits
AreAddedOctets size p = ⊥

-- the characters of a VisibleString (X.680 41)
abbrev pub visible : List Range
visible = record { first = 32; last = 126 } ∷ []

-- bits that have names: those after the last 1 are as few as the size permits (16.2, 16.3)
abbrev pub EndsInOne : List Bool → Type 0
EndsInOne bits = (front : List Bool) × (bits ≡ front ++ true ∷ [])

abbrev pub least_of : Length → ℕ
least_of (AtLeast least) = least
least_of (Between least range) = least

abbrev pub AreTrimmed : Length → List Bool → Type 0
AreTrimmed size bits = (length bits ≡ least_of size) ⊎ ((least_of size < length bits) × EndsInOne bits)

module _ (aligned : Bool) (node : ℕ) where
  -- the distance from the least value (13.2.2), and the same in the minimal number of octets, after their number (13.2.3)
  abbrev pub integer_between : ℤ → ℕ → ℕ → TypeEncoding FaultKind
  integer_between least range = leaf (constrained aligned range node) (from_least least) node

  abbrev pub integer_at_least : ℤ → ℕ → TypeEncoding FaultKind
  integer_at_least least = leaf (semi_constrained aligned node) (from_least least) node

  -- the value in the minimal number of octets, after their number (13.2.4)
  abbrev pub integer : ℕ → TypeEncoding FaultKind
  integer = leaf (unconstrained aligned node) Integer node

  -- a bit 0 and a value of the root, or a bit 1 and any other value, as without bounds (13.1)
  abbrev pub extensible_integer : (ℤ → Type 0) → (ℤ → Type 0) → (ℕ → TypeEncoding FaultKind) → ℕ → TypeEncoding FaultKind
  extensible_integer Root Added root = by_extension_bit node (IsAddedInteger Added) root
      (leaf (permitted Added Root InRoot node (unconstrained aligned node)) Integer node)

  abbrev pub integer_between_by : Bool → ℤ → ℕ → ℕ → TypeEncoding FaultKind
  integer_between_by false least range = integer_between least range
  integer_between_by true least range =
      extensible_integer (IsBetween least range) (IsOutside least range) (integer_between least range)

  abbrev pub integer_at_least_by : Bool → ℤ → ℕ → TypeEncoding FaultKind
  integer_at_least_by false least = integer_at_least least
  integer_at_least_by true least = extensible_integer (λ n. least ≤ℤ n) (λ n. n <ℤ least) (integer_at_least least)

  -- the index of the value (14.2)
  abbrev pub enumerated : ℕ → ℕ → TypeEncoding FaultKind
  enumerated last = leaf (constrained aligned last node) Enumerated node

  -- a bit 0 and the index in the root, or a bit 1 and the index among the additions (14.3)
  abbrev pub enumerated_by : Bool → ℕ → ℕ → ℕ → TypeEncoding FaultKind
  enumerated_by false last known = enumerated last
  enumerated_by true last known = by_extension_bit node (IsAddedValue last) (enumerated last)
      (leaf (small_number aligned node) (value_of_addition last known) node)

  -- with an extension marker a bit 0 and a size of the root, or a bit 1 and any other size, as without bounds (16.6, 17.3)
  abbrev pub string_by : {X : Type 0} → Bool → (ℕ → Encoding FaultKind X) → (ℕ → Encoding FaultKind X) → (X → Piece)
      → (Piece → Type 0) → ℕ → TypeEncoding FaultKind
  string_by false root extension is Added = leaf root is node
  string_by true root extension is Added = by_extension_bit node Added (leaf root is node) (leaf extension is node)

  abbrev pub bits_by : Bool → Length → (ℕ → Encoding FaultKind (List Bool)) → ℕ → Encoding FaultKind (List Bool)
  bits_by false size A = A
  bits_by true size A = permitted (AreTrimmed size) (λ bits. ¬ (AreTrimmed size bits)) NotTrimmed node A

-- lengths are in at most `most` fragments
module _ (most : ℕ) (aligned : Bool) (node : ℕ) where
  -- the number of the bits where it is not fixed, and the bits (16)
  abbrev pub bit_string : Length → Bool → Bool → ℕ → TypeEncoding FaultKind
  bit_string size is_extensible has_names =
      string_by aligned node is_extensible (bits_by aligned node has_names size (string_of most aligned 1 size node))
      (bits_by aligned node has_names size (added_string most aligned 1 size node)) Bits (AreAddedBits size)

  -- the same of octets (17)
  abbrev pub octet_string : Length → Bool → ℕ → TypeEncoding FaultKind
  octet_string size is_extensible =
      string_by aligned node is_extensible (string_of most aligned 8 size node) (added_string most aligned 8 size node) Octets (AreAddedOctets size)

  -- the number of the characters where it is not fixed, and the characters (30.1 to 30.5)
  abbrev pub text : Length → Bool → List Range → List Range → ℕ → TypeEncoding FaultKind
  text size is_extensible ranges whole =
      string_by aligned node is_extensible (text_of most aligned ranges node size) (added_text most aligned whole node size) Text (IsAddedText size)

  -- octets that are valid, after their number (15, 24, 25, 30.6)
  abbrev pub contents : (List Bool → Type 0) → ℕ → TypeEncoding FaultKind
  contents Valid = leaf (permitted Valid (λ list. ¬ (Valid list)) Contents node (octets most aligned node)) Octets node

  -- a VisibleString that is a time (30, X.680 46.3, 47.3)
  abbrev pub time : (List ℕ → Type 0) → ℕ → TypeEncoding FaultKind
  time Valid = leaf (permitted Valid (λ text. ¬ (Valid text)) Contents node (text_of most aligned visible node (AtLeast 0))) Text node

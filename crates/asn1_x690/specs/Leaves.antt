-- Types of one part in DER (X.690 8.2 to 8.4, 8.6 to 8.8, 8.19, 8.20, 8.23, 8.25, 11.1, 11.2, 11.7, 11.8): which contents octets encode which value.
use Rattle.std.specs.Prelude.{◌≡◌, ℕ, ℤ, ◌+◌, ◌*◌, ◌%◌, ◌^◌, ◌<◌, ◌≤◌, ◌≤ℤ◌, ◌+ℤ◌, pos, ◌⊎◌, ⊤, Bool, true, false, List, [], ◌∷◌, ◌++◌, length, slice_get, Some}
use Rattle.std.specs.Str.{IsUtf8}
use Rattle.asn1_bits.specs.Bits.{bits, digits}
use Rattle.asn1_number.specs.Octets.{IsShortest}
use Rattle.asn1_oid.specs.Contents.{AreSubidentifiers, IsContents}
use Rattle.asn1_schema.specs.declared.tables.Length.{Length}
use Rattle.asn1_schema.specs.declared.tables.Length.TheVariants.{AtLeast, Between}
use Rattle.asn1_schema.specs.declared.tables.Range.{Range}
use Rattle.asn1_schema.specs.declared.tables.TimeKind.{TimeKind}
use Rattle.asn1_schema.specs.Pieces.{Piece, Enumerated, Unknown}
use Rattle.asn1_schema.specs.Times.{IsTime}
use Rattle.asn1_x690.specs.declared.fault.FaultKind.{FaultKind}
use Rattle.asn1_x690.specs.declared.fault.FaultKind.TheVariants.{Contents, NotPermitted}
use Rattle.asn1_x690.specs.declared.tables.CharacterSize.{CharacterSize}
use Rattle.asn1_x690.specs.declared.tables.CharacterSize.TheVariants.{One, Two, Four}
use Rattle.asn1_x690.specs.TypeContents.{TypeContents, valid, permitted_contents, leaf_contents}

-- ---- which octets

-- one octet: 0 for false (8.2.2), and FF for true (11.1)
abbrev pub truth_octet : Bool → ℕ
truth_octet false = 0
truth_octet true = 255

abbrev pub IsBoolean : Bool → List Bool → Type 0
IsBoolean b list = list ≡ digits (truth_octet b) 8

-- none (8.8.2)
abbrev pub IsNull : ⊤ → List Bool → Type 0
IsNull u list = list ≡ []

-- two's complement of minimal length (8.3.2, 8.3.3)
abbrev pub IsInteger : ℤ → List Bool → Type 0
IsInteger n list = (octets : List ℕ) × IsShortest n octets × (list ≡ bits octets)

-- the number of a value (8.4): the first of the table that it is; an unknown one is kept as it is
abbrev pub IsFirst : List ℤ → ℕ → ℤ → Type 0
IsFirst numbers i n = (slice_get numbers i ≡ Some n) × ((j : ℕ) → j < i → slice_get numbers j ≡ Some n → ⊥)

abbrev pub IsKnownValue : List ℤ → Piece → List Bool → Type 0
IsKnownValue numbers p list = (i : ℕ) × (n : ℤ) × (p ≡ Enumerated i) × IsFirst numbers i n × IsInteger n list

abbrev pub IsUnknownValue : List ℤ → Piece → List Bool → Type 0
IsUnknownValue numbers p list =
    (n : ℤ) × (p ≡ Unknown list) × ((i : ℕ) → slice_get numbers i ≡ Some n → ⊥) × IsInteger n list

abbrev pub IsEnumerated : List ℤ → Piece → List Bool → Type 0
IsEnumerated numbers p list = IsKnownValue numbers p list ⊎ IsUnknownValue numbers p list

-- an octet that says how many bits of the last octet are unused, the bits, and zeros for the unused ones (8.6.2, 11.2.1)
pub record IsBitString (x list : List Bool) : Type 0 where
  pub unused : ℕ
  pub few : unused < 8
  pub whole : (length x + unused) % 8 ≡ 0
  pub are : list ≡ digits unused 8 ++ (x ++ digits 0 unused)

-- the octets themselves (8.7.2)
abbrev pub AreOctets : List Bool → List Bool → Type 0
AreOctets x list = (x ≡ list) × ((n : ℕ) × (length x ≡ 8 * n))

-- the octets themselves, where they are valid
abbrev pub IsKept : (List Bool → Type 0) → List Bool → List Bool → Type 0
IsKept Valid x list = (x ≡ list) × Valid list

-- OBJECT IDENTIFIER (8.19), RELATIVE-OID (8.20), UTF8String (8.23.10)
abbrev pub IsObjectIdentifier : List Bool → Type 0
IsObjectIdentifier list = (arcs : List ℕ) × (octets : List ℕ) × IsContents arcs octets × (list ≡ bits octets)

abbrev pub IsRelativeIdentifier : List Bool → Type 0
IsRelativeIdentifier list =
    (arcs : List ℕ) × (octets : List ℕ) × (1 ≤ length arcs) × AreSubidentifiers arcs octets × (list ≡ bits octets)

abbrev pub IsUtf8Text : List Bool → Type 0
IsUtf8Text list = (octets : List ℕ) × IsUtf8 octets × (list ≡ bits octets)

-- the number of each character in one octet (8.23.5), in two (8.23.8) or in four (8.23.7)
abbrev pub width_of : CharacterSize → ℕ
width_of One = 8
width_of Two = 16
width_of Four = 32

abbrev pub AreCharacters : ℕ → List ℕ → List Bool → Type 0
AreCharacters width [] list = list ≡ []
AreCharacters width (c ∷ text) list =
    (rest : List Bool) × (c < 2 ^ width) × AreCharacters width text rest × (list ≡ digits c width ++ rest)

-- UTCTime (8.25, 11.8) and GeneralizedTime (8.25, 11.7): a character in each octet
abbrev pub IsTimeText : TimeKind → List ℕ → List Bool → Type 0
IsTimeText kind text list = AreCharacters 8 text list × IsTime kind text

-- ---- which values

-- without an extension marker a size is one of the constraint; otherwise it is any
abbrev pub HasSize : Bool → Length → ℕ → Type 0
HasSize true size n = ⊤
HasSize false (AtLeast least) n = least ≤ n
HasSize false (Between least range) n = (least ≤ n) × (n ≤ least + range)

abbrev pub IsBetween : Bool → ℤ → ℕ → ℤ → Type 0
IsBetween true least range n = ⊤
IsBetween false least range n = (least ≤ℤ n) × (n ≤ℤ (least +ℤ pos range))

abbrev pub IsAtLeast : Bool → ℤ → ℤ → Type 0
IsAtLeast true least n = ⊤
IsAtLeast false least n = least ≤ℤ n

-- bits that have names: those after the last 1 are as few as the size permits (11.2.2)
abbrev pub EndsInOne : List Bool → Type 0
EndsInOne bits = (front : List Bool) × (bits ≡ front ++ true ∷ [])

abbrev pub least_of : Length → ℕ
least_of (AtLeast least) = least
least_of (Between least range) = least

abbrev pub AreTrimmed : Bool → Length → List Bool → Type 0
AreTrimmed false size bits = ⊤
AreTrimmed true size bits = (length bits ≡ least_of size) ⊎ ((least_of size < length bits) × EndsInOne bits)

abbrev pub AreSized : Bool → Length → List Bool → Type 0
AreSized is_extensible size bits = (n : ℕ) × (length bits ≡ 8 * n) × HasSize is_extensible size n

-- characters of an alphabet
abbrev pub IsIn : List Range → ℕ → Type 0
IsIn [] c = ⊥
IsIn (r ∷ ranges) c = ((r.first ≤ c) × (c ≤ r.last)) ⊎ IsIn ranges c

abbrev pub AreIn : List Range → List ℕ → Type 0
AreIn ranges [] = ⊤
AreIn ranges (c ∷ text) = IsIn ranges c × AreIn ranges text

-- with an extension marker the characters are those of the type without its constraint
abbrev pub IsText : Bool → Length → List Range → List Range → List ℕ → Type 0
IsText true size ranges whole text = AreIn whole text
IsText false size ranges whole text = AreIn ranges text × HasSize false size (length text)

abbrev pub IsPermittedValue : Bool → Piece → Type 0
IsPermittedValue true p = ⊤
IsPermittedValue false p = (i : ℕ) × (p ≡ Enumerated i)

-- ---- both

-- contents octets of which P says the value, and values that `Yes` permits
abbrev pub leaf_of : {X : Type 0} → (X → List Bool → Type 0) → (X → Type 0) → (X → Piece) → ℕ → TypeContents FaultKind
leaf_of P Yes is node = leaf_contents (permitted_contents Yes NotPermitted node (valid P Contents node)) is node

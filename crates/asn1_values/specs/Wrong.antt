-- The first invalid field, and its reason.
use Rattle.std.specs.Prelude.{◌≡◌, ℕ, ◌+◌, ◌*◌, ◌^◌, ◌<◌, ◌≤◌, ◌⊎◌, Bool, List, Some, length, take, drop, slice_get}
use Rattle.asn1_bits.specs.Bits.{number, bits}
use Rattle.asn1_number.specs.Octets.{IsShortest}
use Rattle.asn1_integer.specs.IntegerOctets.{IsNoInteger}
use Rattle.asn1_oid.specs.Contents.{IsContents, FitU32}
use Rattle.asn1_alphabets.specs.Alphabet.{IsCode}
use Rattle.asn1_values.specs.Fields.{Field, Shape, IsSpelledBy, Begins, Number, Character, CountedInteger, Identifier, OfNumber, OfOctets, OfBits, OfInteger, OfCharacter, OfCountedInteger, OfIdentifier}

-- ---- reading

-- the fault at a field's index in a list of bits
pub data Fault : Type 0 where
  NumberWidth : ℕ → Fault
  NotInteger : Fault
  Short : ℕ → Fault
  NoCharacter : ℕ → Fault
  NoLength : ℕ → Fault
  NotIdentifier : Fault
  ArcOver : Fault

-- `asked` bits are needed, and n are missing
abbrev pub IsShortBy : ℕ → List Bool → ℕ → Type 0
IsShortBy asked left n = (0 < n) × (length left + n ≡ asked)

-- the bits are octets that are the contents of no arcs, whatever their size
abbrev pub IsNoIdentifier : List Bool → Type 0
IsNoIdentifier list = (octets arcs : List ℕ) → list ≡ bits octets → ¬ (IsContents arcs octets)

-- the bits are the contents of arcs that do not all fit `u32`
abbrev pub HoldsLargeArc : List Bool → Type 0
HoldsLargeArc list = (octets : List ℕ) × (arcs : List ℕ) × (list ≡ bits octets) × IsContents arcs octets
    × ¬ (FitU32 arcs)

-- a counted integer can have `k` octets
abbrev pub IsCount : ℕ → Type 0
IsCount k = (1 ≤ k) × (k ≤ 127)

-- the number of the first octet
abbrev pub first_octet : List Bool → ℕ
first_octet left = number (take 8 left)

-- why no field of the shape begins what is left; the first reason that applies
abbrev pub IsReason : Shape → List Bool → Fault → Type 0
IsReason (OfNumber width) left (NumberWidth w) = (w ≡ width) × (128 < width)
IsReason (OfNumber width) left (Short n) = (width ≤ 128) × IsShortBy width left n
IsReason (OfOctets count) left (Short n) = IsShortBy (8 * count) left n
IsReason (OfBits len) left (Short n) = IsShortBy len left n
IsReason (OfInteger count) left NotInteger =
    (count ≡ 0) ⊎ ((8 * count ≤ length left) × IsNoInteger (take (8 * count) left))
IsReason (OfInteger count) left (Short n) = (0 < count) × IsShortBy (8 * count) left n
IsReason (OfCharacter alphabet) left (Short n) = IsShortBy alphabet.width left n
IsReason (OfCharacter alphabet) left (NoCharacter k) =
    (alphabet.width ≤ length left) × (k ≡ number (take alphabet.width left))
    × ((c : ℕ) → ¬ (IsCode alphabet c k))
IsReason OfCountedInteger left (Short n) =
    IsShortBy 8 left n
    ⊎ ((8 ≤ length left) × IsCount (first_octet left) × IsShortBy (8 + 8 * first_octet left) left n)
IsReason OfCountedInteger left (NoLength octet) =
    (8 ≤ length left) × (octet ≡ first_octet left) × ¬ (IsCount octet)
IsReason OfCountedInteger left NotInteger =
    (8 + 8 * first_octet left ≤ length left) × IsCount (first_octet left)
    × IsNoInteger (take (8 * first_octet left) (drop 8 left))
IsReason (OfIdentifier count) left NotIdentifier =
    (count ≡ 0) ⊎ ((8 * count ≤ length left) × IsNoIdentifier (take (8 * count) left))
IsReason (OfIdentifier count) left ArcOver =
    (0 < count) × (8 * count ≤ length left) × HoldsLargeArc (take (8 * count) left)
IsReason (OfIdentifier count) left (Short n) = (0 < count) × IsShortBy (8 * count) left n
IsReason shape left fault = ⊥

-- some fields of these shapes begin the list
abbrev pub CanBegin : List Bool → List Shape → Type 0
CanBegin list shapes = (fields : List Field) × (rest : List Bool) × Begins list shapes fields rest

-- i is the least index such that no fields of the shapes up to it begin the list, and the fault is
-- its reason
pub record IsFirstFault (list : List Bool) (shapes : List Shape) (i : ℕ) (fault : Fault) : Type 0 where
  pub within : i < length shapes
  pub wrong : CanBegin list (take (i + 1) shapes) → ⊥
  pub least : (j : ℕ) → j < i → CanBegin list (take (j + 1) shapes)
  pub reason : (shape : Shape) (fields : List Field) (left : List Bool)
      → slice_get shapes i ≡ Some shape → Begins list (take i shapes) fields left → IsReason shape left fault

-- ---- writing

-- why a field has no encoding
pub data Misfit : Type 0 where
  WidthOver : ℕ → Misfit
  PastWidth : Misfit
  NotInAlphabet : ℕ → Misfit
  PastLength : Misfit
  TooFewArcs : Misfit

-- some bits encode the field
abbrev pub Fits : Field → Type 0
Fits field = (list : List Bool) × IsSpelledBy field list

-- the first reason that applies
abbrev pub IsMisfit : Field → Misfit → Type 0
IsMisfit (Number value width) (WidthOver w) = (w ≡ width) × (128 < width)
IsMisfit (Number value width) PastWidth = (width ≤ 128) × (2 ^ width ≤ value)
IsMisfit (Character alphabet character) (NotInAlphabet c) =
    (c ≡ character) × ((k : ℕ) → ¬ (IsCode alphabet character k))
IsMisfit (CountedInteger n) PastLength = (octets : List ℕ) × IsShortest n octets × (127 < length octets)
IsMisfit (Identifier arcs) TooFewArcs = length arcs < 2
IsMisfit field misfit = ⊥

-- i is the least index of a field that doesn't fit, and the misfit is its reason
pub record IsFirstMisfit (fields : List Field) (i : ℕ) (misfit : Misfit) : Type 0 where
  pub within : i < length fields
  pub wrong : (field : Field) → slice_get fields i ≡ Some field → Fits field → ⊥
  pub least : (j : ℕ) (field : Field) → j < i → slice_get fields j ≡ Some field → Fits field
  pub reason : (field : Field) → slice_get fields i ≡ Some field → IsMisfit field misfit

-- The contents of each type of one part, and which of its values are not written yet.
use Rattle.std.specs.Prelude.{ℕ, ℤ, ◌+◌, Bool, true, false, List, ◌∷◌, length, slice_range}
use Rattle.asn1_schema.specs.declared.misfit.MisfitKind.TheVariants as misfit
use Rattle.asn1_schema.specs.declared.part.Part.{Part}
use Rattle.asn1_schema.specs.declared.tables.Node.{Node}
use Rattle.asn1_schema.specs.declared.tables.Node.TheVariants as type
use Rattle.asn1_schema.specs.declared.tables.Range.{Range}
use Rattle.asn1_schema.specs.Encodings.{invalid_contents}
use Rattle.asn1_schema.specs.TypeEncodings.{FirstPart, IsAtPart}
use Rattle.asn1_schema.specs.Pieces.{Piece, Null, Truth, Integer, Bits, Octets, Text}
use Rattle.asn1_schema.specs.Reals.{IsReal}
use Rattle.asn1_x690.specs.declared.fault.FaultKind.{FaultKind}
use Rattle.asn1_x690.specs.declared.fault.FaultKind.TheVariants.{NoNode}
use Rattle.asn1_x690.specs.declared.tables.TypeTags.{TypeTags}
use Rattle.asn1_x690.specs.Der.{always, rows_of}
use Rattle.asn1_x690.specs.Leaves.{IsBoolean, IsNull, IsInteger, IsEnumerated, IsBitString, AreOctets, IsKept, IsObjectIdentifier, IsRelativeIdentifier, IsUtf8Text, width_of, AreCharacters, IsTimeText, HasSize, IsBetween, IsAtLeast, AreTrimmed, AreSized, IsText, IsPermittedValue, leaf_of}
use Rattle.asn1_x690.specs.TypeContents.{TypeContents}
use Rattle.asn1_x691_writers.specs.Put.{IsInFragments}
use Rattle.asn1_x690_writers.specs.Put.{AreTooMany, AreTooManyBits, IsFarWithout}

-- the most frequent types of one part
abbrev pub is_frequent : Node → Bool
is_frequent (type.OctetString size is_extensible) = true
is_frequent type.ObjectIdentifier = true
is_frequent n = false

abbrev pub enumerated_in : List ℤ → ℕ → TypeTags → Bool → ℕ → ℕ → TypeContents FaultKind
enumerated_in numbers node t is_extensible last known =
    leaf_of (IsEnumerated (slice_range numbers t.numbers (t.numbers + (last + 1 + known)))) (IsPermittedValue is_extensible) (λ p. p) node

-- no part is of a type that has others in it
abbrev pub no_leaf : ℕ → TypeContents FaultKind
no_leaf node = record {
  contents = invalid_contents NoNode node;
  misfit = FirstPart node (λ p rest e. IsAtPart misfit.NoNode node (p ∷ rest) e);
}

abbrev pub leaf_in : List Range → List ℤ → ℕ → TypeTags → Node → TypeContents FaultKind
leaf_in ranges numbers node t type.Null = leaf_of IsNull always (λ u. Null) node
leaf_in ranges numbers node t type.Boolean = leaf_of IsBoolean always Truth node
leaf_in ranges numbers node t (type.IntegerBetween bounds is_extensible) =
    leaf_of IsInteger (IsBetween is_extensible bounds.least bounds.range) Integer node
leaf_in ranges numbers node t (type.IntegerAtLeast bound is_extensible) = leaf_of IsInteger (IsAtLeast is_extensible bound.least) Integer node
leaf_in ranges numbers node t type.Integer = leaf_of IsInteger always Integer node
leaf_in ranges numbers node t (type.Enumerated last false known) = enumerated_in numbers node t false last 0
leaf_in ranges numbers node t (type.Enumerated last true known) = enumerated_in numbers node t true last known
leaf_in ranges numbers node t (type.BitString size is_extensible has_names) =
    leaf_of IsBitString (λ bits. HasSize is_extensible size (length bits) × AreTrimmed has_names size bits) Bits node
leaf_in ranges numbers node t (type.OctetString size is_extensible) = leaf_of AreOctets (AreSized is_extensible size) Octets node
leaf_in ranges numbers node t type.ObjectIdentifier = leaf_of (IsKept IsObjectIdentifier) always Octets node
leaf_in ranges numbers node t type.RelativeIdentifier = leaf_of (IsKept IsRelativeIdentifier) always Octets node
leaf_in ranges numbers node t type.Utf8String = leaf_of (IsKept IsUtf8Text) always Octets node
leaf_in ranges numbers node t type.Real = leaf_of (IsKept IsReal) always Octets node
leaf_in ranges numbers node t (type.Time kind) = leaf_of (IsTimeText kind) always Text node
leaf_in ranges numbers node t (type.Text size is_extensible alphabet whole) =
    leaf_of (AreCharacters (width_of t.characters)) (IsText is_extensible size (rows_of ranges alphabet) (rows_of ranges whole)) Text node
leaf_in ranges numbers node t n = no_leaf node

-- ---- what is not written yet

-- of a BIT STRING, an OCTET STRING and a UTF8String, 2^64 bits and more; of identifiers and of a REAL, octets in fragments; of an
-- INTEGER, a number outside -2^127 to 2^127 - 1, if the part does not have its minimal octets
abbrev pub IsLeftOut : List ℕ → Node → Part → Piece → Type 0
IsLeftOut source (type.IntegerBetween bounds is_extensible) part p = IsFarWithout source part p
IsLeftOut source (type.IntegerAtLeast bound is_extensible) part p = IsFarWithout source part p
IsLeftOut source type.Integer part p = IsFarWithout source part p
IsLeftOut source (type.BitString size is_extensible has_names) part p = AreTooManyBits p
IsLeftOut source (type.OctetString size is_extensible) part p = AreTooMany p
IsLeftOut source type.ObjectIdentifier part p = IsInFragments part
IsLeftOut source type.RelativeIdentifier part p = IsInFragments part
IsLeftOut source type.Utf8String part p = AreTooMany p
IsLeftOut source type.Real part p = IsInFragments part
IsLeftOut source n part p = ⊥

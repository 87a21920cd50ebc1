-- The definition of DER for the tables of a context, by the nodes of its types.
use Rattle.std.specs.Prelude.{ℕ, ℤ, ◌+◌, Bool, true, false, List, length, slice_range}
use Rattle.asn1_schema.specs.declared.tables.Node.{Node}
use Rattle.asn1_schema.specs.declared.tables.Node.TheVariants as type
use Rattle.asn1_schema.specs.declared.misfit.MisfitKind.TheVariants as misfit
use Rattle.asn1_schema.specs.Pieces.{Null, Truth, Integer, Bits, Octets, Text}
use Rattle.asn1_schema.specs.TypeEncodings.{TypeEncoding}
use Rattle.asn1_x691_fields.specs.Defaults.{default_in}
use Rattle.asn1_x690.specs.declared.fault.FaultKind.{FaultKind}
use Rattle.asn1_x690.specs.declared.fault.FaultKind.TheVariants.{NoNode}
use Rattle.asn1_x690.specs.declared.tables.Tag.{Tag}
use Rattle.asn1_x690.specs.declared.tables.Identifier.{Identifier}
use Rattle.asn1_x690.specs.declared.tables.TypeTags.{TypeTags}
use Rattle.asn1_x690.specs.TypeContents.{TypeContents, ByHeader, invalid_type_contents}
use Rattle.asn1_schema.specs.Reals.{IsReal}
use Rattle.asn1_x690.specs.Leaves.{IsBoolean, IsNull, IsInteger, IsEnumerated, IsBitString, AreOctets, IsKept, IsObjectIdentifier, IsRelativeIdentifier, IsUtf8Text, width_of, AreCharacters, IsTimeText, HasSize, IsBetween, IsAtLeast, AreTrimmed, AreSized, IsText, IsPermittedValue, leaf_of}
use Rattle.asn1_x690.specs.Der as der
use Rattle.asn1_x690.specs.Der.{type_at, type_if, element, any_value, around, tagged, primitive, constructed, rows_of, always, no_type, choice_by, sequence_by, sequence_of}
use Rattle.asn1_x690_decode.specs.declared.context.Context.{Context}

-- the tables of a context, as the definition has them
abbrev pub tables_of : Context → der.Context
tables_of c = record {
  members = c.tables.members.now;
  ranges = c.tables.ranges.now;
  types = c.tags.types.now;
  firsts = c.tags.members.now;
  tags = c.tags.tags.now;
  numbers = c.tags.numbers.now;
  defaults = λ value. default_in c.defaults false value 0;
}

-- the types of a context, whose values are nested less deep than the depth
abbrev pub types : Context → ℕ → ℕ → ByHeader FaultKind Identifier
types c depth node = type_at c.tables.nodes.now (tables_of c) depth node

-- the elements that encode a value of a type
abbrev pub elements : Context → ℕ → ℕ → TypeEncoding FaultKind
elements c depth node = element node (types c depth node)

-- ---- types by their nodes

-- a type without contents of its own: it has those of a type in it, or any
abbrev pub is_bare : Bool → Node → Bool
is_bare true n = true
is_bare false (type.Choice root is_extensible known) = true
is_bare false (type.Open inner) = true
is_bare false n = false

-- the form of other types
abbrev pub is_structured : Node → Bool
is_structured (type.Sequence root is_extensible known) = true
is_structured (type.SequenceOf size is_extensible item) = true
is_structured (type.SetOf size is_extensible item) = true
is_structured n = false

-- the most frequent types of one part
abbrev pub is_frequent : Node → Bool
is_frequent type.Boolean = true
is_frequent (type.OctetString size is_extensible) = true
is_frequent type.ObjectIdentifier = true
is_frequent n = false

abbrev pub identifier_by : Bool → Tag → Identifier
identifier_by is_constructed tag = record { tag = tag; is_constructed = is_constructed }

module _ (c : Context) (depth node : ℕ) where
  abbrev E : ℕ → ByHeader FaultKind Identifier
  E = types c depth

  abbrev numbers_of : TypeTags → ℕ → List ℤ
  numbers_of t count = slice_range c.tags.numbers.now t.numbers (t.numbers + count)

  -- the contents octets of a type
  abbrev pub contents_by : TypeTags → Node → TypeContents FaultKind
  contents_by t type.Null = leaf_of IsNull always (λ u. Null) node
  contents_by t type.Boolean = leaf_of IsBoolean always Truth node
  contents_by t (type.IntegerBetween bounds is_extensible) =
      leaf_of IsInteger (IsBetween is_extensible bounds.least bounds.range) Integer node
  contents_by t (type.IntegerAtLeast bound is_extensible) = leaf_of IsInteger (IsAtLeast is_extensible bound.least) Integer node
  contents_by t type.Integer = leaf_of IsInteger always Integer node
  contents_by t (type.Enumerated last false known) =
      leaf_of (IsEnumerated (numbers_of t (last + 1 + 0))) (IsPermittedValue false) (λ p. p) node
  contents_by t (type.Enumerated last true known) =
      leaf_of (IsEnumerated (numbers_of t (last + 1 + known))) (IsPermittedValue true) (λ p. p) node
  contents_by t (type.BitString size is_extensible has_names) =
      leaf_of IsBitString (λ bits. HasSize is_extensible size (length bits) × AreTrimmed has_names size bits) Bits node
  contents_by t (type.OctetString size is_extensible) = leaf_of AreOctets (AreSized is_extensible size) Octets node
  contents_by t type.ObjectIdentifier = leaf_of (IsKept IsObjectIdentifier) always Octets node
  contents_by t type.RelativeIdentifier = leaf_of (IsKept IsRelativeIdentifier) always Octets node
  contents_by t type.Utf8String = leaf_of (IsKept IsUtf8Text) always Octets node
  contents_by t type.Real = leaf_of (IsKept IsReal) always Octets node
  contents_by t (type.Time kind) = leaf_of (IsTimeText kind) always Text node
  contents_by t (type.Text size is_extensible alphabet whole) =
      leaf_of (AreCharacters (width_of t.characters))
      (IsText is_extensible size (rows_of c.tables.ranges.now alphabet) (rows_of c.tables.ranges.now whole)) Text node
  contents_by t (type.Sequence root is_extensible known) = sequence_by E (tables_of c) node is_extensible root known
  contents_by t (type.SequenceOf size is_extensible item) = sequence_of E (tables_of c) node false is_extensible size item
  contents_by t (type.SetOf size is_extensible item) = sequence_of E (tables_of c) node true is_extensible size item
  contents_by t n = invalid_type_contents NoNode misfit.NoNode node

  -- the contents octets of a type without contents of its own, by the identifier
  abbrev pub bare_by : Bool → Node → ByHeader FaultKind Identifier
  bare_by true n = any_value Octets node
  bare_by false (type.Choice root is_extensible known) = choice_by E (tables_of c) node is_extensible root known
  bare_by false (type.Open inner) = E inner
  bare_by false n = no_type node

  -- the contents octets of a type in these tags, by the identifier
  abbrev pub tagged_if : Bool → Bool → TypeTags → Node → List Tag → ByHeader FaultKind Identifier
  tagged_if true is_any t n tags = around node tags (bare_by is_any n)
  tagged_if false is_any t n tags = tagged node (identifier_by (is_structured n)) tags (contents_by t n)

  abbrev pub tagged_by : TypeTags → Node → List Tag → ByHeader FaultKind Identifier
  tagged_by t n tags = tagged_if (is_bare t.is_any n) t.is_any t n tags

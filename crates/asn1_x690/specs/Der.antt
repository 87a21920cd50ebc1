-- DER (X.690 8, 10, 11): which octets encode which parts of a value of a type in the tables, the first fault of other octets, and
-- the first misfit of other parts. `E` says the same of the types that a type names.
use Rattle.std.specs.Prelude.{◌≡◌, ℕ, ℤ, zero, suc, ◌+◌, ◌<◌, ◌⊎◌, ⊤, Bool, true, false, List, [], ◌∷◌, Option, Some, None, length, slice_get, slice_range}
use Rattle.asn1_schema.specs.declared.tables.Presence.{Presence}
use Rattle.asn1_schema.specs.declared.tables.Presence.TheVariants as presence
use Rattle.asn1_schema.specs.declared.tables.Length.{Length}
use Rattle.asn1_schema.specs.declared.tables.Member.{Member}
use Rattle.asn1_schema.specs.declared.tables.Rows.{Rows}
use Rattle.asn1_schema.specs.declared.tables.Range.{Range}
use Rattle.asn1_schema.specs.declared.tables.Node.{Node}
use Rattle.asn1_schema.specs.declared.tables.Node.TheVariants as type
use Rattle.asn1_schema.specs.declared.misfit.MisfitKind.TheVariants as misfit
use Rattle.asn1_schema.specs.Pieces.{Piece, Null, Truth, Integer, Bits, Octets, Text, Sequence, Count, Chosen, Additions, Unknown}
use Rattle.asn1_schema.specs.Order.{IsBefore}
use Rattle.asn1_schema.specs.Reals.{IsReal}
use Rattle.asn1_schema.specs.Encodings.{Then}
use Rattle.asn1_schema.specs.TypeEncodings.{TypeEncoding, except_type}
use Rattle.asn1_x690.specs.declared.fault.FaultKind.{FaultKind}
use Rattle.asn1_x690.specs.declared.fault.FaultKind.TheVariants.{OtherTag, Missing, Extra, NotPermitted, DefaultValue, NotAscending, NoNode, TooDeep}
use Rattle.asn1_x690.specs.declared.tables.Tag.{Tag}
use Rattle.asn1_x690.specs.declared.tables.Identifier.{Identifier}
use Rattle.asn1_x690.specs.declared.tables.TypeTags.{TypeTags}
use Rattle.asn1_x690.specs.declared.tables.FirstTags.{FirstTags}
use Rattle.asn1_x690.specs.Elements.{identifier, any_element}
use Rattle.asn1_x690.specs.TypeContents.{TypeContents, ToldContents, ByHeader, headed, invalid_header, only_header, any_header, either, only_value, told, invalid_told, nothing_more, present, required, perhaps, prefixed, to_end, renamed, some_or_none}
use Rattle.asn1_x690.specs.Leaves.{IsBoolean, IsNull, IsInteger, IsEnumerated, IsBitString, AreOctets, IsKept, IsObjectIdentifier, IsRelativeIdentifier, IsUtf8Text, width_of, AreCharacters, IsTimeText, HasSize, IsBetween, IsAtLeast, AreTrimmed, AreSized, IsText, IsPermittedValue, leaf_of}

-- the tables that the types of a schema share
pub record Context : Type 0 where
  pub members : List Member
  pub ranges : List Range
  -- of each node: its tags
  pub types : List TypeTags
  -- of each member: its first tags
  pub firsts : List FirstTags
  pub tags : List Tag
  -- the numbers of ENUMERATED
  pub numbers : List ℤ
  -- the element that encodes a default value, where the tables have it
  pub defaults : ℕ → Option (List Bool)

abbrev pub rows_of : {X : Type 0} → List X → Rows → List X
rows_of table rows = slice_range table rows.from (rows.from + rows.count)

-- no value is of a type or a member that the tables have not
abbrev pub no_type : ℕ → ByHeader FaultKind Identifier
no_type node = invalid_header NoNode misfit.NoNode node

abbrev pub no_member : {X : Type 0} → ℕ → ToldContents FaultKind X
no_member node = invalid_told NoNode misfit.NoNode node

-- an element of a type
abbrev pub element : ℕ → ByHeader FaultKind Identifier → TypeEncoding FaultKind
element node B = headed (any_element node) node B

-- any element, all octets of which are the part
abbrev pub any_value : (List Bool → Piece) → ℕ → ByHeader FaultKind Identifier
any_value is node = any_header (any_element node) is node

-- ---- tags (8.14)

abbrev pub primitive : Tag → Identifier
primitive tag = record { tag = tag; is_constructed = false }

abbrev pub constructed : Tag → Identifier
constructed tag = record { tag = tag; is_constructed = true }

-- each of these tags is that of an element around the value (8.14.3)
abbrev pub around : ℕ → List Tag → ByHeader FaultKind Identifier → ByHeader FaultKind Identifier
around node [] B = B
around node (t ∷ tags) B = only_header (constructed t) OtherTag node (only_value Extra node (element node (around node tags B)))

-- the last tag is the type's own, or the one that replaces it (8.14.2); `id` adds the form. The others are around it.
abbrev pub tagged : ℕ → (Tag → Identifier) → List Tag → TypeContents FaultKind → ByHeader FaultKind Identifier
tagged node id [] F = no_type node
tagged node id (t ∷ []) F = only_header (id t) OtherTag node F
tagged node id (t ∷ u ∷ tags) F =
    only_header (constructed t) OtherTag node (only_value Extra node (element node (tagged node id (u ∷ tags) F)))

-- a value may begin with the tag of the identifier
abbrev pub HasTag : List Tag → FirstTags → Identifier → Type 0
HasTag tags first id =
    (first.is_any ≡ true) ⊎ ((i : ℕ) × (i < first.tags.count) × (slice_get tags (first.tags.from + i) ≡ Some id.tag))

-- the bits begin with identifier octets of such a tag
abbrev pub BeginsWith : List Tag → FirstTags → List Bool → Type 0
BeginsWith tags first list = Then (identifier 0).encodes (λ id rest. HasTag tags first id) list

-- what permits each value
abbrev pub always : {X : Type 0} → X → Type 0
always x = ⊤

module _ (E : ℕ → ByHeader FaultKind Identifier) (context : Context) (node : ℕ) where
  -- ---- SEQUENCE (8.9); SET, whose root has the order of the tags (8.11, 10.3)

  -- a value that is not the default, which is absent (11.5)
  abbrev pub value_by : Presence → TypeEncoding FaultKind → TypeEncoding FaultKind
  value_by presence.Mandatory A = A
  value_by presence.Optional A = A
  value_by (presence.Default value) A =
      except_type (λ list. context.defaults value ≡ Some list) DefaultValue misfit.DefaultValue node A

  -- a component that is present where the next tag is one of its first tags
  abbrev pub optional : {X : Type 0} → Option FirstTags → TypeEncoding FaultKind → ToldContents FaultKind X → ToldContents FaultKind X
  optional None A F = no_member node
  optional (Some first) A F = perhaps (BeginsWith context.tags first) node (present A F) F

  abbrev pub component_by : {X : Type 0} → Presence → Option FirstTags → ℕ → TypeEncoding FaultKind → ToldContents FaultKind X
      → ToldContents FaultKind X
  component_by presence.Mandatory first n A F = required Missing n (present A F)
  component_by presence.Optional first n A F = optional first A F
  component_by (presence.Default value) first n A F = optional first A F

  -- a component, and others (8.9.2, 8.9.3)
  abbrev pub component : {X : Type 0} → Option Member → Option FirstTags → ToldContents FaultKind X → ToldContents FaultKind X
  component None first F = no_member node
  component (Some m) first F = component_by m.presence first m.node (value_by m.presence (element m.node (E m.node))) F

  -- `count` components, which are members from an index on
  abbrev pub components : {X : Type 0} → ℕ → ℕ → ToldContents FaultKind X → ToldContents FaultKind X
  components zero from F = F
  components (suc count) from F =
      component (slice_get context.members from) (slice_get context.firsts from) (components count (from + 1) F)

  -- An addition group that is present where the next tag is one of its components'. They are components of the type itself (8.9.2),
  -- so no element is around them; a part before theirs tells how many there are.
  abbrev pub group : FirstTags → Rows → ToldContents FaultKind ℕ → ToldContents FaultKind ℕ
  group first rows F =
      perhaps (BeginsWith context.tags first) node
      (prefixed (Sequence rows.count false) node (components rows.count rows.from F)) F

  abbrev pub addition_by : Option Rows → FirstTags → TypeEncoding FaultKind → ToldContents FaultKind ℕ → ToldContents FaultKind ℕ
  addition_by None first A F = optional (Some first) A F
  addition_by (Some rows) first A F = group first rows F

  -- an addition that the schema knows
  abbrev pub addition : Option Member → Option FirstTags → ToldContents FaultKind ℕ → ToldContents FaultKind ℕ
  addition None first F = no_member node
  addition (Some m) None F = no_member node
  addition (Some m) (Some first) F = addition_by first.group first (value_by m.presence (element m.node (E m.node))) F

  abbrev pub additions : ℕ → ℕ → ToldContents FaultKind ℕ → ToldContents FaultKind ℕ
  additions zero from F = F
  additions (suc count) from F =
      addition (slice_get context.members from) (slice_get context.firsts from) (additions count (from + 1) F)

  -- elements that the schema does not know, after `count` known additions
  abbrev pub unknown_additions : ℕ → ToldContents FaultKind ℕ
  unknown_additions count = renamed (λ n. count + n) node (to_end Extra node (λ before. element node (any_value Unknown node)))

  -- the additions, after their number; or none
  abbrev pub extension : Rows → ToldContents FaultKind Bool
  extension known =
      some_or_none Extra node
      (told Additions always NotPermitted node (additions known.count known.from (unknown_additions known.count)))

  abbrev pub sequence_by : Bool → Rows → Rows → TypeContents FaultKind
  sequence_by false root known =
      told (λ u. Sequence root.count false) always NotPermitted node (components root.count root.from (nothing_more Extra node))
  sequence_by true root known =
      told (Sequence root.count) always NotPermitted node (components root.count root.from (extension known))

  -- ---- SEQUENCE OF (8.10), SET OF (8.12)

  -- an item that is not before the one whose octets precede it (11.6)
  abbrev pub in_order : Bool → TypeEncoding FaultKind → List Bool → TypeEncoding FaultKind
  in_order false A before = A
  in_order true A before = except_type (λ list. IsBefore list before) NotAscending misfit.NotAscending node A

  abbrev pub sequence_of : Bool → Bool → Length → ℕ → TypeContents FaultKind
  sequence_of is_set is_extensible size item =
      told Count (HasSize is_extensible size) NotPermitted node (to_end Extra node (in_order is_set (element item (E item))))

  -- ---- CHOICE (8.13): the first alternative that may begin with the tag

  abbrev pub alternative : Option Member → Option FirstTags → ℕ → ByHeader FaultKind Identifier → ByHeader FaultKind Identifier
  alternative None first i B = no_type node
  alternative (Some m) None i B = no_type node
  alternative (Some m) (Some first) i B = either (HasTag context.tags first) node (Chosen i) (E m.node) B

  -- `count` alternatives, of which the first has an index, and is a member
  abbrev pub alternatives : ℕ → ℕ → ℕ → ByHeader FaultKind Identifier → ByHeader FaultKind Identifier
  alternatives zero i from B = B
  alternatives (suc count) i from B =
      alternative (slice_get context.members from) (slice_get context.firsts from) i (alternatives count (i + 1) (from + 1) B)

  -- with an extension marker an element of another tag is kept
  abbrev pub choice_by : Bool → Rows → Rows → ByHeader FaultKind Identifier
  choice_by false root known = alternatives root.count 0 root.from (invalid_header OtherTag misfit.OtherPart node)
  choice_by true root known =
      alternatives root.count 0 root.from (alternatives known.count root.count known.from (any_value Unknown node))

  -- ---- all types

  abbrev pub leaf : {X : Type 0} → TypeTags → (X → List Bool → Type 0) → (X → Type 0) → (X → Piece) → ByHeader FaultKind Identifier
  leaf t P Yes is = tagged node primitive (rows_of context.tags t.tags) (leaf_of P Yes is node)

  abbrev pub structured : TypeTags → TypeContents FaultKind → ByHeader FaultKind Identifier
  structured t F = tagged node constructed (rows_of context.tags t.tags) F

  abbrev pub enumerated : TypeTags → Bool → ℕ → ℕ → ByHeader FaultKind Identifier
  enumerated t is_extensible last known =
      leaf t (IsEnumerated (slice_range context.numbers t.numbers (t.numbers + (last + 1 + known)))) (IsPermittedValue is_extensible) (λ p. p)

  abbrev pub type_by : TypeTags → Node → ByHeader FaultKind Identifier
  type_by t type.Null = leaf t IsNull always (λ u. Null)
  type_by t type.Boolean = leaf t IsBoolean always Truth
  type_by t (type.IntegerBetween bounds is_extensible) = leaf t IsInteger (IsBetween is_extensible bounds.least bounds.range) Integer
  type_by t (type.IntegerAtLeast bound is_extensible) = leaf t IsInteger (IsAtLeast is_extensible bound.least) Integer
  type_by t type.Integer = leaf t IsInteger always Integer
  type_by t (type.Enumerated last false known) = enumerated t false last 0
  type_by t (type.Enumerated last true known) = enumerated t true last known
  type_by t (type.BitString size is_extensible has_names) =
      leaf t IsBitString (λ bits. HasSize is_extensible size (length bits) × AreTrimmed has_names size bits) Bits
  type_by t (type.OctetString size is_extensible) = leaf t AreOctets (AreSized is_extensible size) Octets
  type_by t type.ObjectIdentifier = leaf t (IsKept IsObjectIdentifier) always Octets
  type_by t type.RelativeIdentifier = leaf t (IsKept IsRelativeIdentifier) always Octets
  type_by t type.Utf8String = leaf t (IsKept IsUtf8Text) always Octets
  -- the octets themselves, where they are in canonical form (8.5, 11.3)
  type_by t type.Real = leaf t (IsKept IsReal) always Octets
  type_by t (type.Time kind) = leaf t (IsTimeText kind) always Text
  type_by t (type.Text size is_extensible alphabet whole) =
      leaf t (AreCharacters (width_of t.characters))
      (IsText is_extensible size (rows_of context.ranges alphabet) (rows_of context.ranges whole)) Text
  type_by t (type.Sequence root is_extensible known) = structured t (sequence_by is_extensible root known)
  type_by t (type.SequenceOf size is_extensible item) = structured t (sequence_of false is_extensible size item)
  type_by t (type.SetOf size is_extensible item) = structured t (sequence_of true is_extensible size item)
  type_by t (type.Choice root is_extensible known) = around node (rows_of context.tags t.tags) (choice_by is_extensible root known)
  -- the encoding of the value that it holds (8.15)
  type_by t (type.Open inner) = around node (rows_of context.tags t.tags) (E inner)

  -- ANY, or an open type whose type is not known (8.15): any element
  abbrev pub type_if : Bool → TypeTags → Node → ByHeader FaultKind Identifier
  type_if false t n = type_by t n
  type_if true t n = around node (rows_of context.tags t.tags) (any_value Octets node)

  abbrev pub type_of : Option Node → Option TypeTags → ByHeader FaultKind Identifier
  type_of None t = no_type node
  type_of (Some n) None = no_type node
  type_of (Some n) (Some t) = type_if t.is_any t n

-- the contents of the type at a node, by the identifier; its values are nested less deep than the depth
abbrev pub type_at : List Node → Context → ℕ → ℕ → ByHeader FaultKind Identifier
type_at nodes context zero node = invalid_header TooDeep misfit.TooDeep node
type_at nodes context (suc depth) node =
    type_of (type_at nodes context depth) context node (slice_get nodes node) (slice_get context.types node)

-- the elements that encode values of the type at a node (8.1.1)
abbrev pub encoding_at : List Node → Context → ℕ → ℕ → TypeEncoding FaultKind
encoding_at nodes context depth node = element node (type_at nodes context depth node)

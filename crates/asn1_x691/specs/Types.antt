-- Canonical PER (X.691), both variants: which bits encode which parts of a value of a type in the tables, the first fault of other
-- bits, and the first misfit of other parts. `E` says the same of the types that a type names.
use Rattle.std.specs.Prelude.{ℕ, zero, suc, ◌+◌, ◌-◌, ◌<◌, ◌≤◌, nat_lt, Bool, true, false, List, length, Option, Some, None, slice_get, slice_range, ◌≡◌, ◌||◌, [], ◌∷◌, ⊤}
use Rattle.asn1_schema.specs.declared.tables.Length.{Length}
use Rattle.asn1_schema.specs.declared.tables.Length.TheVariants.{AtLeast, Between}
use Rattle.asn1_schema.specs.declared.tables.Presence.{Presence}
use Rattle.asn1_schema.specs.declared.tables.Presence.TheVariants as presence
use Rattle.asn1_schema.specs.declared.tables.Member.{Member}
use Rattle.asn1_schema.specs.declared.tables.Rows.{Rows}
use Rattle.asn1_schema.specs.declared.tables.Range.{Range}
use Rattle.asn1_schema.specs.declared.tables.Node.{Node}
use Rattle.asn1_schema.specs.declared.tables.Node.TheVariants as type
use Rattle.asn1_schema.specs.declared.misfit.MisfitKind.TheVariants as misfit
use Rattle.asn1_schema.specs.Pieces.{Piece, Parts, Null, Truth, Sequence, Count, Chosen, Additions, Unknown, UnknownChosen}
use Rattle.asn1_schema.specs.Order.{IsBefore}
use Rattle.asn1_schema.specs.Times.{IsTime}
use Rattle.asn1_schema.specs.Reals.{IsReal}
use Rattle.asn1_schema.specs.Encodings.{Encoding, invalid, anywhere, permitted}
use Rattle.asn1_schema.specs.Fields.{raw_bits}
use Rattle.asn1_schema.specs.TypeEncodings.{TypeEncoding, AfterHeader, nothing, invalid_type, several, several_by_bits, part, leaf, put, header, end_of_components, mandatory, optional, both, except_type, only_where}
use Rattle.asn1_x691.specs.declared.fault.FaultKind.{FaultKind}
use Rattle.asn1_x691.specs.declared.fault.FaultKind.TheVariants.{Short, BelowLeast, NoNode, TooDeep, NoAddition, InRoot, DefaultValue, NotAscending, Unsupported}
use Rattle.asn1_x691.specs.Fields.{phase, constrained, length_of, small_length, small_number}
use Rattle.asn1_x691.specs.Fragments.{octets}
use Rattle.asn1_x691.specs.Strings.{bit, IsOfRoot, IsAddedSize}
use Rattle.asn1_x691.specs.Limits.{Limits, bit_fragments, IsOffOctet, IsEmptyFragment}
use Rattle.asn1_x691.specs.OpenTypes.{open_type}
use Rattle.asn1_x691.specs.Lists.{list_where}
use Rattle.asn1_x691.specs.Contents.{IsObjectIdentifier, IsRelativeIdentifier, IsUtf8Text}
use Rattle.asn1_x691.specs.Leaves.{by_extension_bit, integer_between_by, integer_at_least_by, integer, enumerated_by, bit_string, octet_string, text, contents, time}

-- a type that the tables have not
abbrev pub no_node : ℕ → ℕ → TypeEncoding FaultKind
no_node node = invalid_type NoNode misfit.NoNode node

-- an addition of a CHOICE, by its index among the additions: the alternative of that index after the root, where it is known
abbrev pub added_alternative : ℕ → Bool → ℕ → Piece
added_alternative last false i = UnknownChosen i
added_alternative last true i = Chosen (last + 1 + i)

abbrev pub alternative_of_addition : ℕ → ℕ → ℕ → Piece
alternative_of_addition last known i = added_alternative last (nat_lt i known) i

abbrev pub IsAddedAlternative : ℕ → Piece → Type 0
IsAddedAlternative last (Chosen i) = last < i
IsAddedAlternative last (UnknownChosen i) = ⊤
IsAddedAlternative last p = ⊥

-- how many of the components from an index on are OPTIONAL or have a DEFAULT
abbrev pub presence_bits : Presence → ℕ
presence_bits presence.Mandatory = 0
presence_bits presence.Optional = 1
presence_bits (presence.Default value) = 1

abbrev pub is_optional : Option Member → ℕ
is_optional None = 0
is_optional (Some m) = presence_bits m.presence

abbrev pub optional_count : List Member → ℕ → ℕ → ℕ
optional_count members zero at = 0
optional_count members (suc count) at = is_optional (slice_get members at) + optional_count members count (at + 1)

-- bits at a position encode an item that is before the one whose bits precede it. The ALIGNED variant pads to octets of the message,
-- so what is compared are their encodings at the beginning of a message.
pub record IsMisplaced (aligned : Bool) (A : ℕ → TypeEncoding FaultKind) (before : List Bool) (at : ℕ) (list : List Bool) : Type 0 where
  pub first : Parts
  pub second : Parts
  pub first_bits : List Bool
  pub second_bits : List Bool
  pub some : 0 < length before
  pub began : ℕ
  pub ended : phase aligned (began + length before) ≡ phase aligned at
  pub first_here : (A began).encoding.encodes first before
  pub second_here : (A at).encoding.encodes second list
  pub first_alone : (A 0).encoding.encodes first first_bits
  pub second_alone : (A 0).encoding.encodes second second_bits
  pub are_before : IsBefore second_bits first_bits

-- the number of the items of a SEQUENCE OF: the length is this far above the least
abbrev pub count_from : ℕ → ℕ → Piece
count_from least d = Count (least + d)

-- a number of items that is none of the root
abbrev pub IsAddedCount : Length → Piece → Type 0
IsAddedCount size (Count n) = IsAddedSize size n
IsAddedCount size p = ⊥

-- lengths of a least, and those that are none of the root
abbrev pub length_at_least : Bool → ℕ → ℕ → ℕ → Encoding FaultKind ℕ
length_at_least aligned least node = permitted (λ n. least ≤ n) (λ n. n < least) BelowLeast node (length_of aligned node)

abbrev pub added_length : Bool → Length → ℕ → ℕ → Encoding FaultKind ℕ
added_length aligned size node = permitted (IsAddedSize size) (IsOfRoot size) InRoot node (length_of aligned node)

abbrev pub any_true : List Bool → Bool
any_true [] = false
any_true (b ∷ bits) = b || any_true bits

-- `defaults` has the bits that encode a default value after a number of bits of an octet, where the tables have it
module _ (limits : Limits) (aligned : Bool) (E : ℕ → ℕ → TypeEncoding FaultKind) (members : List Member) (ranges : List Range)
    (defaults : ℕ → ℕ → Option (List Bool)) (node : ℕ) where
  -- ---- SEQUENCE (19)

  -- a value that is not the default, which is absent (19.5)
  abbrev pub value_by : Presence → (ℕ → TypeEncoding FaultKind) → ℕ → TypeEncoding FaultKind
  value_by presence.Mandatory A at = A at
  value_by presence.Optional A at = A at
  value_by (presence.Default value) A at =
      except_type (λ list. defaults value (phase aligned at) ≡ Some list) DefaultValue misfit.DefaultValue node (A at)

  -- a component, and others
  abbrev pub component_by : Presence → (ℕ → TypeEncoding FaultKind) → (ℕ → AfterHeader FaultKind (List Bool)) → ℕ
      → AfterHeader FaultKind (List Bool)
  component_by presence.Mandatory A F = mandatory A F
  component_by presence.Optional A F = optional NoNode node A F
  component_by (presence.Default value) A F = optional NoNode node A F

  abbrev pub no_component : ℕ → AfterHeader FaultKind (List Bool)
  no_component at = record { after = λ bits. invalid NoNode node; misfit = λ tape e. (no_node node at).misfit tape e }

  abbrev pub component : Option Member → (ℕ → AfterHeader FaultKind (List Bool)) → ℕ → AfterHeader FaultKind (List Bool)
  component None F = no_component
  component (Some m) F = component_by m.presence (value_by m.presence (E m.node)) F

  -- `count` components, which are members from an index on
  abbrev pub components : ℕ → ℕ → ℕ → AfterHeader FaultKind (List Bool)
  components zero from = end_of_components NoNode node
  components (suc count) from = component (slice_get members from) (components count (from + 1))

  -- a bit for each component that is OPTIONAL or has a DEFAULT, 1 where it is present, and the components (19.2 to 19.4)
  abbrev pub root_of : Rows → ℕ → TypeEncoding FaultKind
  root_of root = header (raw_bits (optional_count members root.count root.from) Short node)
      (optional_count members root.count root.from) (components root.count root.from) node

  abbrev pub sequence : Rows → ℕ → TypeEncoding FaultKind
  sequence root = put (Sequence root.count false) (root_of root) node

  -- an addition: an open type, whatever it holds where the schema does not know it (19.9)
  abbrev pub known_addition : Option Member → ℕ → TypeEncoding FaultKind
  known_addition None = no_node node
  known_addition (Some m) = open_type limits.fragments aligned node (value_by m.presence (E m.node))

  abbrev pub addition : ℕ → ℕ → ℕ → TypeEncoding FaultKind
  addition zero from = leaf (octets limits.fragments aligned node) Unknown node
  addition (suc known) from = known_addition (slice_get members from)

  -- `count` additions, of which the known ones are members from an index on; a bit tells of each whether it is present
  abbrev pub additions_by_bits : ℕ → ℕ → ℕ → ℕ → AfterHeader FaultKind (List Bool)
  additions_by_bits zero known from = end_of_components NoNode node
  additions_by_bits (suc count) known from =
      optional NoNode node (addition known from) (additions_by_bits count (known - 1) (from + 1))

  -- one addition at least is present (19.1)
  abbrev pub some_additions : ℕ → Rows → ℕ → AfterHeader FaultKind (List Bool)
  some_additions count known = only_where any_true NoAddition misfit.NoAddition node (additions_by_bits count known.count known.from)

  -- the number of the additions, a presence bit for each, and those that are present (19.7 to 19.9)
  abbrev pub extension : Rows → ℕ → TypeEncoding FaultKind
  extension known = part (small_length aligned node) Additions
      (λ count. header (raw_bits count Short node) count (some_additions count known) node) node

  -- whether the part of a SEQUENCE says that additions follow the root
  abbrev pub IsExtended : Rows → Piece → Type 0
  IsExtended root p = p ≡ Sequence root.count true

  -- the root alone after an extension bit 0; the root and additions after a bit 1 (19.1)
  abbrev pub extensible_sequence : Rows → Rows → ℕ → TypeEncoding FaultKind
  extensible_sequence root known = by_extension_bit node (IsExtended root) (sequence root)
      (put (Sequence root.count true) (both (root_of root) (extension known)) node)

  abbrev pub sequence_by : Bool → Rows → Rows → ℕ → TypeEncoding FaultKind
  sequence_by false root known = sequence root
  sequence_by true root known = extensible_sequence root known

  -- ---- SEQUENCE OF (20), SET OF (22)

  -- an item that is not before the one whose bits precede it
  abbrev pub in_order : ℕ → List Bool → ℕ → TypeEncoding FaultKind
  in_order item before at = except_type (IsMisplaced aligned (E item) before at) NotAscending misfit.NotAscending node
      (except_type (λ list. IsOffOctet limits.sets_on_octets aligned before at) Unsupported misfit.Unsupported node (E item at))

  -- `n` items; those of a SET OF in ascending order (22.1)
  abbrev pub items : Bool → ℕ → ℕ → ℕ → TypeEncoding FaultKind
  items false item n = several (E item) n
  items true item n = several_by_bits (in_order item) [] n

  -- `n` items of a SEQUENCE OF in a fragment, or after all fragments
  abbrev pub fragment_items : ℕ → ℕ → ℕ → TypeEncoding FaultKind
  fragment_items item n at =
      except_type (λ list. IsEmptyFragment limits.fragments_have_bits n list) Unsupported misfit.Unsupported node (several (E item) n at)

  -- the items after their number: those of a SEQUENCE OF in fragments from 16,384 on, of a SET OF fewer
  abbrev pub items_at_least : Bool → ℕ → ℕ → ℕ → TypeEncoding FaultKind
  items_at_least false least item =
      list_where (fragment_items item) aligned node limits.item_fragments (λ n. least ≤ n) (λ n. n < least) BelowLeast
  items_at_least true least item = part (length_at_least aligned least node) Count (λ n. items true item n) node

  -- the number of the items, and the items
  abbrev pub sequence_of : Bool → Length → ℕ → ℕ → TypeEncoding FaultKind
  sequence_of is_set (AtLeast least) item = items_at_least is_set least item
  sequence_of is_set (Between least range) item =
      part (constrained aligned range node) (count_from least) (λ d. items is_set item (least + d)) node

  -- a number of items that is none of the root, and the items
  abbrev pub added_items : Bool → Length → ℕ → ℕ → TypeEncoding FaultKind
  added_items false size item =
      list_where (fragment_items item) aligned node limits.item_fragments (IsAddedSize size) (IsOfRoot size) InRoot
  added_items true size item = part (added_length aligned size node) Count (λ n. items true item n) node

  -- a bit 0 and a number of the root, or a bit 1 and any other number, as without bounds (20.4)
  abbrev pub sequence_of_by : Bool → Bool → Length → ℕ → ℕ → TypeEncoding FaultKind
  sequence_of_by false is_set size item = sequence_of is_set size item
  sequence_of_by true is_set size item =
      by_extension_bit node (IsAddedCount size) (sequence_of is_set size item) (added_items is_set size item)

  -- ---- CHOICE (23)

  abbrev pub alternative : Option Member → ℕ → TypeEncoding FaultKind
  alternative None = no_node node
  alternative (Some m) = E m.node

  abbrev pub alternative_if : Bool → Option Member → ℕ → TypeEncoding FaultKind
  alternative_if false m = no_node node
  alternative_if true m = alternative m

  -- the index of the alternative, and the alternative (23.6)
  abbrev pub choice : Rows → ℕ → TypeEncoding FaultKind
  choice rows = part (constrained aligned (rows.count - 1) node) Chosen
      (λ i. alternative_if (nat_lt i rows.count) (slice_get members (rows.from + i))) node

  -- an addition is an open type, whatever it holds where the schema does not know it (23.8)
  abbrev pub added : Rows → Bool → ℕ → ℕ → TypeEncoding FaultKind
  added known false i = leaf (octets limits.fragments aligned node) Unknown node
  added known true i = known_addition (slice_get members (known.from + i))

  -- a bit 0 and the root, or a bit 1, the index of an addition, and the addition (23.5 to 23.8)
  abbrev pub choice_extension : Rows → Rows → ℕ → TypeEncoding FaultKind
  choice_extension rows known = part (small_number aligned node) (alternative_of_addition (rows.count - 1) known.count)
      (λ i. added known (nat_lt i known.count) i) node

  abbrev pub choice_by : Bool → Rows → Rows → ℕ → TypeEncoding FaultKind
  choice_by false rows known = choice rows
  choice_by true rows known =
      by_extension_bit node (IsAddedAlternative (rows.count - 1)) (choice rows) (choice_extension rows known)

  -- ---- all types

  abbrev pub type_of : Option Node → ℕ → TypeEncoding FaultKind
  type_of None = no_node node
  -- no bits (18)
  type_of (Some type.Null) = put Null nothing node
  -- one bit (12)
  type_of (Some type.Boolean) = leaf (anywhere (bit node)) Truth node
  type_of (Some (type.IntegerBetween bounds is_extensible)) =
      integer_between_by aligned node is_extensible bounds.least bounds.range
  type_of (Some (type.IntegerAtLeast bound is_extensible)) = integer_at_least_by aligned node is_extensible bound.least
  type_of (Some type.Integer) = integer aligned node
  type_of (Some (type.Enumerated last is_extensible known)) = enumerated_by aligned node is_extensible last known
  type_of (Some (type.BitString size is_extensible has_names)) = bit_string (bit_fragments limits has_names) aligned node size is_extensible has_names
  type_of (Some (type.OctetString size is_extensible)) = octet_string limits.string_fragments aligned node size is_extensible
  type_of (Some (type.Text size is_extensible alphabet whole)) =
      text limits.fragments aligned node size is_extensible (slice_range ranges alphabet.from (alphabet.from + alphabet.count))
      (slice_range ranges whole.from (whole.from + whole.count))
  type_of (Some type.ObjectIdentifier) = contents limits.fragments aligned node IsObjectIdentifier
  type_of (Some type.RelativeIdentifier) = contents limits.fragments aligned node IsRelativeIdentifier
  type_of (Some type.Utf8String) = contents limits.string_fragments aligned node IsUtf8Text
  type_of (Some type.Real) = contents limits.fragments aligned node IsReal
  type_of (Some (type.Time kind)) = time limits.fragments aligned node (IsTime kind)
  type_of (Some (type.Sequence root is_extensible known)) = sequence_by is_extensible root known
  type_of (Some (type.SequenceOf size is_extensible item)) = sequence_of_by is_extensible false size item
  type_of (Some (type.SetOf size is_extensible item)) = sequence_of_by is_extensible true size item
  type_of (Some (type.Choice alternatives is_extensible known)) = choice_by is_extensible alternatives known
  -- octets that are a complete encoding, after their number (11.2)
  type_of (Some (type.Open inner)) = open_type limits.fragments aligned node (E inner)

-- the type at a node, whose values are nested less deep than the depth
abbrev pub type_at : Limits → Bool → List Node → List Member → List Range → (ℕ → ℕ → Option (List Bool)) → ℕ → ℕ → ℕ → TypeEncoding FaultKind
type_at limits aligned nodes members ranges defaults zero node = invalid_type TooDeep misfit.TooDeep node
type_at limits aligned nodes members ranges defaults (suc depth) node =
    type_of limits aligned (type_at limits aligned nodes members ranges defaults depth) members ranges defaults node (slice_get nodes node)

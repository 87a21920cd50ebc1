-- The parts of each value of a type are one value.
use Rattle.std.proofs.Common.{◌≡◌, ℕ, ℤ, zero, suc, ◌+◌, ◌-◌, ◌*◌, ◌/◌, ◌%◌, ◌<◌, ◌≤◌, nat_lt, Bool, true, false, List, [], length, refl, arith, Option, Some, None}
use Rattle.std.specs.Prelude.{slice_get, slice_range}
use Rattle.asn1_schema.specs.declared.tables.Length.{Length}
use Rattle.asn1_schema.specs.declared.tables.Length.TheVariants.{AtLeast, Between}
use Rattle.asn1_schema.specs.declared.tables.Presence.{Presence}
use Rattle.asn1_schema.specs.declared.tables.Presence.TheVariants as presence
use Rattle.asn1_schema.specs.declared.tables.Range.{Range}
use Rattle.asn1_schema.specs.declared.tables.Member.{Member}
use Rattle.asn1_schema.specs.declared.tables.Rows.{Rows}
use Rattle.asn1_schema.specs.declared.tables.Node.{Node}
use Rattle.asn1_schema.specs.declared.tables.Node.TheVariants as type
use Rattle.asn1_schema.specs.declared.misfit.MisfitKind.TheVariants as misfit
use Rattle.asn1_schema.specs.Pieces.{Piece, Null, Truth, Integer, Bits, Octets, Text, Sequence, Chosen, Count, Parts, Additions, Unknown}
use Rattle.asn1_schema.specs.Encodings.{Encoding, anywhere, permitted}
use Rattle.asn1_schema.specs.Fields.{raw_bits}
use Rattle.asn1_schema.specs.TypeEncodings.{TypeEncoding, AfterHeader, nothing, header, both, several, put, part, leaf, either_by_bit}
use Rattle.asn1_schema.specs.Times.{IsTime}
use Rattle.asn1_schema.specs.Reals.{IsReal}
use Rattle.asn1_schema.specs.Values.{held_by, AreValues, none}
use Rattle.asn1_schema.specs.Laws.ValueLaws.{GivesValues, GivesAfter, as_many, one_value, same_parts, nothing_gives, invalid_gives, both_gives, several_gives, part_gives, leaf_gives, put_gives, header_gives, except_gives, several_by_bits_gives, end_gives, mandatory_gives, optional_gives, only_where_gives, either_gives, enclosed_gives}
use Rattle.asn1_x691.specs.declared.fault.FaultKind.{FaultKind}
use Rattle.asn1_x691.specs.declared.fault.FaultKind.TheVariants.{Short, BelowLeast, NoNode, TooDeep, NoAddition, DefaultValue, NotAscending, Unsupported, InRoot, Contents}
use Rattle.asn1_x691.specs.Fields.{phase, constrained, semi_constrained, unconstrained, small_length, small_number}
use Rattle.asn1_x691.specs.Strings.{bit, string_of, added_string, IsOfRoot, IsAddedSize}
use Rattle.asn1_x691.specs.Characters.{text_of, added_text, IsAddedText}
use Rattle.asn1_x691.specs.Fragments.{octets}
use Rattle.asn1_x691.specs.Limits.{Limits, IsOffOctet, IsEmptyFragment}
use Rattle.asn1_x691.specs.Lists.{number_of_units, fragment_then, items_below, whole_fragments_then, items_in_fragments, list_where}
use Rattle.asn1_x691.specs.Laws.ListLaws.{number_told}
use Rattle.asn1_x691.specs.Laws.ListTypeLaws.{list_told}
use Rattle.asn1_x691.specs.OpenTypes.{complete, enclosing, open_type}
use Rattle.asn1_x691.specs.Contents.{IsObjectIdentifier, IsRelativeIdentifier, IsUtf8Text}
use Rattle.asn1_x691.specs.Leaves.{by_extension_bit, from_least, IsBetween, IsOutside, IsAddedInteger, added_value, value_of_addition, IsAddedValue, AreAddedBits, AreAddedOctets, integer_between, integer_at_least, integer, extensible_integer, integer_between_by, integer_at_least_by, enumerated, enumerated_by, string_by, bits_by, bit_string, octet_string, text, contents, visible, time}
use Rattle.asn1_x691.specs.Types.{no_node, added_alternative, alternative_of_addition, IsAddedAlternative, optional_count, IsMisplaced, count_from, IsAddedCount, length_at_least, added_length, any_true, value_by, component_by, no_component, component, components, root_of, sequence, known_addition, addition, additions_by_bits, some_additions, extension, IsExtended, extensible_sequence, sequence_by, in_order, items, fragment_items, items_at_least, sequence_of, added_items, sequence_of_by, alternative, alternative_if, choice, added, choice_extension, choice_by, type_of, type_at}

-- a root or an extension, as a bit tells
extension_bit_gives : (node n : ℕ) (Added : Piece → Type 0) (A B : ℕ → TypeEncoding FaultKind) → GivesValues n A → GivesValues n B
    → GivesValues n (by_extension_bit node Added A B)
extension_bit_gives node n Added A B a b = header_gives (bit node) 1 (either_by_bit Added node A B) node n (either_gives Added node n A B a b)

-- ---- types of one part

module _ (aligned : Bool) (node : ℕ) where
  extensible_integer_gives : (Root Added : ℤ → Type 0) (A : ℕ → TypeEncoding FaultKind) → GivesValues 1 A
      → GivesValues 1 (extensible_integer aligned node Root Added A)
  extensible_integer_gives Root Added A a =
      extension_bit_gives node 1 (IsAddedInteger Added) A (leaf (permitted Added Root InRoot node (unconstrained aligned node)) Integer node) a
      (leaf_gives (permitted Added Root InRoot node (unconstrained aligned node)) Integer node (λ x. refl))

  integer_between_by_gives : (b : Bool) (least : ℤ) (range : ℕ) → GivesValues 1 (integer_between_by aligned node b least range)
  integer_between_by_gives false least range = leaf_gives (constrained aligned range node) (from_least least) node (λ x. refl)
  integer_between_by_gives true least range =
      extensible_integer_gives (IsBetween least range) (IsOutside least range) (integer_between aligned node least range)
      (leaf_gives (constrained aligned range node) (from_least least) node (λ x. refl))

  integer_at_least_by_gives : (b : Bool) (least : ℤ) → GivesValues 1 (integer_at_least_by aligned node b least)
  integer_at_least_by_gives false least = leaf_gives (semi_constrained aligned node) (from_least least) node (λ x. refl)
  integer_at_least_by_gives true least =
      extensible_integer_gives _ _ (integer_at_least aligned node least)
      (leaf_gives (semi_constrained aligned node) (from_least least) node (λ x. refl))

  holds_none : (last known i : ℕ) (b : Bool) → held_by (added_value last b i) ≡ 0
  holds_none last known i false = refl
  holds_none last known i true = refl

  enumerated_by_gives : (b : Bool) (last known : ℕ) → GivesValues 1 (enumerated_by aligned node b last known)
  enumerated_by_gives false last known = leaf_gives (constrained aligned last node) _ node (λ x. refl)
  enumerated_by_gives true last known =
      extension_bit_gives node 1 (IsAddedValue last) (enumerated aligned node last)
      (leaf (small_number aligned node) (value_of_addition last known) node)
      (leaf_gives (constrained aligned last node) _ node (λ x. refl))
      (leaf_gives (small_number aligned node) (value_of_addition last known) node (λ i. holds_none last known i (nat_lt i known)))

  string_by_gives : {X : Type 0} (b : Bool) (A B : ℕ → Encoding FaultKind X) (is : X → Piece) (Added : Piece → Type 0)
      → ((x : X) → held_by (is x) ≡ 0) → GivesValues 1 (string_by aligned node b A B is Added)
  string_by_gives false A B is Added e = leaf_gives A is node e
  string_by_gives true A B is Added e =
      extension_bit_gives node 1 Added (leaf A is node) (leaf B is node) (leaf_gives A is node e) (leaf_gives B is node e)

  contents_gives : (most : ℕ) (Valid : List Bool → Type 0) → GivesValues 1 (contents most aligned node Valid)
  contents_gives most Valid =
      leaf_gives (permitted Valid (λ list. ¬ (Valid list)) Contents node (octets most aligned node)) Octets node (λ x. refl)

  time_gives : (most : ℕ) (Valid : List ℕ → Type 0) → GivesValues 1 (time most aligned node Valid)
  time_gives most Valid =
      leaf_gives (permitted Valid (λ text. ¬ (Valid text)) Contents node (text_of most aligned visible node (AtLeast 0))) Text node (λ x. refl)

-- a complete encoding
pub complete_gives : (node : ℕ) (A : ℕ → TypeEncoding FaultKind) → GivesValues 1 A → (parts : Parts) (list : List Bool)
    → (complete node A).fills parts list → AreValues 1 parts
complete_gives node A a parts list p = same_parts p.is (a 0 p.value.0 p.front p.first.0)

-- ---- lists of any number of items

module _ (A : ℕ → ℕ → TypeEncoding FaultKind) (aligned : Bool) (node : ℕ) (a : (n : ℕ) → GivesValues n (A n)) where
  number_gives : (n : ℕ) → GivesValues 0 (number_of_units A aligned node n)
  number_gives n at parts list p = same_parts (number_told A aligned node n at parts list p).0 none

  fragment_gives : (n m : ℕ) (R : ℕ → TypeEncoding FaultKind) → GivesValues m R → GivesValues (n + m) (fragment_then A aligned node n R)
  fragment_gives n m R r at parts list p =
      as_many (omega arith)
      (both_gives (number_of_units A aligned node n) (both (A n) R) 0 (n + m) (number_gives n) (both_gives (A n) R n m (a n) r) at parts list p)

  below_gives : (b : Bool) (n : ℕ) → GivesValues n (items_below A aligned node b n)
  below_gives true n at parts list p =
      as_many (omega arith) (fragment_gives n 0 nothing (nothing_gives FaultKind) at parts list p)
  below_gives false n at parts list p =
      let r = n % 16384 in
      as_many (omega arith)
      (fragment_gives (16384 * (n / 16384)) (r + 0) (fragment_then A aligned node r nothing)
      (fragment_gives r 0 nothing (nothing_gives FaultKind)) at parts list p)

  whole_gives : (k n : ℕ) (R : ℕ → TypeEncoding FaultKind) → GivesValues n R
      → GivesValues (65536 * k + n) (whole_fragments_then A aligned node k R)
  whole_gives zero n R r at parts list p = as_many (omega arith) (r at parts list p)
  whole_gives (suc k) n R r at parts list p =
      as_many (omega arith)
      (fragment_gives 65536 (65536 * k + n) (whole_fragments_then A aligned node k R) (whole_gives k n R r) at parts list p)

  fragments_give : (n : ℕ) → GivesValues n (items_in_fragments A aligned node n)
  fragments_give n at parts list p =
      as_many (omega arith)
      (whole_gives (n / 65536) (n % 65536) (items_below A aligned node (nat_lt (n % 65536) 16384) (n % 65536))
      (below_gives (nat_lt (n % 65536) 16384) (n % 65536)) at parts list p)

  list_gives : (most : ℕ) (Yes No : ℕ → Type 0) (kind : FaultKind) → GivesValues 1 (list_where A aligned node most Yes No kind)
  list_gives most Yes No kind at parts list p =
      let t = list_told A aligned node most Yes No kind at parts list p in
      same_parts t.are (one_value (Count t.count) t.items (fragments_give t.count at t.items list t.encodes))

-- ---- all types

module _ (limits : Limits) (aligned : Bool) (E : ℕ → ℕ → TypeEncoding FaultKind) (e : (n : ℕ) → GivesValues 1 (E n)) (members : List Member)
    (ranges : List Range) (defaults : ℕ → ℕ → Option (List Bool)) (node : ℕ) where
  open_gives : (A : ℕ → TypeEncoding FaultKind) → GivesValues 1 A → GivesValues 1 (open_type limits.fragments aligned node A)
  open_gives A a =
      enclosed_gives (enclosing limits.fragments aligned node) (complete node A) (A 0).misfit node 1 (complete_gives node A a)

  value_by_gives : (p : Presence) (A : ℕ → TypeEncoding FaultKind) → GivesValues 1 A
      → GivesValues 1 (value_by limits aligned E members ranges defaults node p A)
  value_by_gives presence.Mandatory A a = a
  value_by_gives presence.Optional A a = a
  value_by_gives (presence.Default value) A a =
      except_gives (λ at list. defaults value (phase aligned at) ≡ Some list) DefaultValue misfit.DefaultValue node 1 A a

  component_by_gives : (p : Presence) (A : ℕ → TypeEncoding FaultKind) (F : ℕ → AfterHeader FaultKind (List Bool)) (n : ℕ) → GivesValues 1 A → GivesAfter n F
      → GivesAfter (suc n) (component_by limits aligned E members ranges defaults node p A F)
  component_by_gives presence.Mandatory A F n a f = mandatory_gives A F n a f
  component_by_gives presence.Optional A F n a f = optional_gives A F n NoNode node a f
  component_by_gives (presence.Default value) A F n a f = optional_gives A F n NoNode node a f

  component_gives : (m : Option Member) (F : ℕ → AfterHeader FaultKind (List Bool)) (n : ℕ) → GivesAfter n F
      → GivesAfter (suc n) (component limits aligned E members ranges defaults node m F)
  component_gives None F n f = λ at bits parts list p. absurd p
  component_gives (Some m) F n f =
      component_by_gives m.presence (value_by limits aligned E members ranges defaults node m.presence (E m.node)) F n
      (value_by_gives m.presence (E m.node) (e m.node)) f

  components_gives : (count from : ℕ) → GivesAfter count (components limits aligned E members ranges defaults node count from)
  components_gives zero from = end_gives NoNode node
  components_gives (suc count) from =
      component_gives (slice_get members from) (components limits aligned E members ranges defaults node count (from + 1)) count
      (components_gives count (from + 1))

  root_gives : (root : Rows) → GivesValues root.count (root_of limits aligned E members ranges defaults node root)
  root_gives root =
      header_gives (raw_bits (optional_count members root.count root.from) Short node) (optional_count members root.count root.from)
      (components limits aligned E members ranges defaults node root.count root.from) node root.count (components_gives root.count root.from)

  sequence_gives : (root : Rows) → GivesValues 1 (sequence limits aligned E members ranges defaults node root)
  sequence_gives root =
      put_gives (Sequence root.count false) (root_of limits aligned E members ranges defaults node root) node (root_gives root)

  known_addition_gives : (m : Option Member) → GivesValues 1 (known_addition limits aligned E members ranges defaults node m)
  known_addition_gives None = invalid_gives 1 NoNode misfit.NoNode node
  known_addition_gives (Some m) =
      open_gives (value_by limits aligned E members ranges defaults node m.presence (E m.node)) (value_by_gives m.presence (E m.node) (e m.node))

  addition_gives : (known from : ℕ) → GivesValues 1 (addition limits aligned E members ranges defaults node known from)
  addition_gives zero from = leaf_gives (octets limits.fragments aligned node) Unknown node (λ x. refl)
  addition_gives (suc known) from = known_addition_gives (slice_get members from)

  additions_give : (count known from : ℕ) → GivesAfter count (additions_by_bits limits aligned E members ranges defaults node count known from)
  additions_give zero known from = end_gives NoNode node
  additions_give (suc count) known from =
      optional_gives (addition limits aligned E members ranges defaults node known from)
      (additions_by_bits limits aligned E members ranges defaults node count (known - 1) (from + 1)) count NoNode node (addition_gives known from)
      (additions_give count (known - 1) (from + 1))

  extension_gives : (known : Rows) → GivesValues 1 (extension limits aligned E members ranges defaults node known)
  extension_gives known =
      part_gives (small_length aligned node) Additions
      (λ count. header (raw_bits count Short node) count (some_additions limits aligned E members ranges defaults node count known) node) node
      (λ count. header_gives (raw_bits count Short node) count (some_additions limits aligned E members ranges defaults node count known) node count
      (only_where_gives any_true NoAddition misfit.NoAddition node count
      (additions_by_bits limits aligned E members ranges defaults node count known.count known.from)
      (additions_give count known.count known.from)))

  sequence_by_gives : (b : Bool) (root known : Rows) → GivesValues 1 (sequence_by limits aligned E members ranges defaults node b root known)
  sequence_by_gives false root known = sequence_gives root
  sequence_by_gives true root known =
      extension_bit_gives node 1 (IsExtended limits aligned E members ranges defaults node root)
      (sequence limits aligned E members ranges defaults node root)
      (put (Sequence root.count true) (both (root_of limits aligned E members ranges defaults node root)
      (extension limits aligned E members ranges defaults node known)) node) (sequence_gives root)
      (put_gives (Sequence root.count true) (both (root_of limits aligned E members ranges defaults node root)
      (extension limits aligned E members ranges defaults node known)) node
      (both_gives (root_of limits aligned E members ranges defaults node root) (extension limits aligned E members ranges defaults node known)
      root.count 1 (root_gives root) (extension_gives known)))

  in_order_gives : (item : ℕ) (before : List Bool) → GivesValues 1 (in_order limits aligned E members ranges defaults node item before)
  in_order_gives item before at parts list p = e item at parts list p.0.0

  items_give : (is_set : Bool) (item n : ℕ) → GivesValues n (items limits aligned E members ranges defaults node is_set item n)
  items_give false item n = several_gives (E item) (e item) n
  items_give true item n =
      several_by_bits_gives (in_order limits aligned E members ranges defaults node item) (in_order_gives item) n []

  fragment_items_give : (item n : ℕ) → GivesValues n (fragment_items limits aligned E members ranges defaults node item n)
  fragment_items_give item n =
      except_gives (λ at list. IsEmptyFragment limits.fragments_have_bits n list) Unsupported misfit.Unsupported node n (several (E item) n)
      (several_gives (E item) (e item) n)

  at_least_gives : (is_set : Bool) (least item : ℕ)
      → GivesValues 1 (items_at_least limits aligned E members ranges defaults node is_set least item)
  at_least_gives false least item =
      list_gives (fragment_items limits aligned E members ranges defaults node item) aligned node (fragment_items_give item)
      limits.item_fragments (λ n. least ≤ n) (λ n. n < least) BelowLeast
  at_least_gives true least item =
      part_gives (length_at_least aligned least node) Count (λ n. items limits aligned E members ranges defaults node true item n) node
      (λ n. items_give true item n)

  sequence_of_gives : (is_set : Bool) (size : Length) (item : ℕ)
      → GivesValues 1 (sequence_of limits aligned E members ranges defaults node is_set size item)
  sequence_of_gives is_set (AtLeast least) item = at_least_gives is_set least item
  sequence_of_gives is_set (Between least range) item =
      part_gives (constrained aligned range node) (count_from least)
      (λ d. items limits aligned E members ranges defaults node is_set item (least + d)) node (λ d. items_give is_set item (least + d))

  added_items_give : (is_set : Bool) (size : Length) (item : ℕ)
      → GivesValues 1 (added_items limits aligned E members ranges defaults node is_set size item)
  added_items_give false size item =
      list_gives (fragment_items limits aligned E members ranges defaults node item) aligned node (fragment_items_give item)
      limits.item_fragments (IsAddedSize size) (IsOfRoot size) InRoot
  added_items_give true size item =
      part_gives (added_length aligned size node) Count (λ n. items limits aligned E members ranges defaults node true item n) node
      (λ n. items_give true item n)

  sequence_of_by_gives : (b is_set : Bool) (size : Length) (item : ℕ)
      → GivesValues 1 (sequence_of_by limits aligned E members ranges defaults node b is_set size item)
  sequence_of_by_gives false is_set size item = sequence_of_gives is_set size item
  sequence_of_by_gives true is_set size item =
      extension_bit_gives node 1 (IsAddedCount size) (sequence_of limits aligned E members ranges defaults node is_set size item)
      (added_items limits aligned E members ranges defaults node is_set size item) (sequence_of_gives is_set size item)
      (added_items_give is_set size item)

  alternative_gives : (m : Option Member) → GivesValues 1 (alternative limits aligned E members ranges defaults node m)
  alternative_gives None = invalid_gives 1 NoNode misfit.NoNode node
  alternative_gives (Some m) = e m.node

  alternative_if_gives : (b : Bool) (m : Option Member) → GivesValues 1 (alternative_if limits aligned E members ranges defaults node b m)
  alternative_if_gives false m = invalid_gives 1 NoNode misfit.NoNode node
  alternative_if_gives true m = alternative_gives m

  choice_gives : (rows : Rows) → GivesValues 1 (choice limits aligned E members ranges defaults node rows)
  choice_gives rows =
      part_gives (constrained aligned (rows.count - 1) node) Chosen
      (λ i. alternative_if limits aligned E members ranges defaults node (nat_lt i rows.count) (slice_get members (rows.from + i))) node
      (λ i. alternative_if_gives (nat_lt i rows.count) (slice_get members (rows.from + i)))

  added_gives : (known : Rows) (b : Bool) (i : ℕ) → GivesValues 1 (added limits aligned E members ranges defaults node known b i)
  added_gives known false i = leaf_gives (octets limits.fragments aligned node) Unknown node (λ x. refl)
  added_gives known true i = known_addition_gives (slice_get members (known.from + i))

  holds_one : (last i : ℕ) (b : Bool) → 1 ≡ held_by (added_alternative last b i)
  holds_one last i false = refl
  holds_one last i true = refl

  choice_extension_gives : (rows known : Rows) → GivesValues 1 (choice_extension limits aligned E members ranges defaults node rows known)
  choice_extension_gives rows known =
      part_gives (small_number aligned node) (alternative_of_addition (rows.count - 1) known.count)
      (λ i. added limits aligned E members ranges defaults node known (nat_lt i known.count) i) node
      (λ i at parts list p. as_many (holds_one (rows.count - 1) i (nat_lt i known.count)) (added_gives known (nat_lt i known.count) i at parts list p))

  choice_by_gives : (b : Bool) (rows known : Rows) → GivesValues 1 (choice_by limits aligned E members ranges defaults node b rows known)
  choice_by_gives false rows known = choice_gives rows
  choice_by_gives true rows known =
      extension_bit_gives node 1 (IsAddedAlternative (rows.count - 1)) (choice limits aligned E members ranges defaults node rows)
      (choice_extension limits aligned E members ranges defaults node rows known) (choice_gives rows) (choice_extension_gives rows known)

  type_gives : (n : Option Node) → GivesValues 1 (type_of limits aligned E members ranges defaults node n)
  type_gives None = invalid_gives 1 NoNode misfit.NoNode node
  type_gives (Some type.Null) = put_gives {K = FaultKind} Null nothing node (nothing_gives FaultKind)
  type_gives (Some type.Boolean) = leaf_gives (anywhere (bit node)) Truth node (λ x. refl)
  type_gives (Some (type.IntegerBetween bounds is_extensible)) = integer_between_by_gives aligned node is_extensible bounds.least bounds.range
  type_gives (Some (type.IntegerAtLeast bound is_extensible)) = integer_at_least_by_gives aligned node is_extensible bound.least
  type_gives (Some type.Integer) = leaf_gives (unconstrained aligned node) Integer node (λ x. refl)
  type_gives (Some (type.Enumerated last is_extensible known)) = enumerated_by_gives aligned node is_extensible last known
  type_gives (Some (type.BitString size is_extensible has_names)) = string_by_gives aligned node is_extensible _ _ Bits (AreAddedBits size) (λ x. refl)
  type_gives (Some (type.OctetString size is_extensible)) = string_by_gives aligned node is_extensible _ _ Octets (AreAddedOctets size) (λ x. refl)
  type_gives (Some (type.Text size is_extensible alphabet whole)) =
      string_by_gives aligned node is_extensible _ _ Text (IsAddedText size) (λ x. refl)
  type_gives (Some type.ObjectIdentifier) = contents_gives aligned node limits.fragments IsObjectIdentifier
  type_gives (Some type.RelativeIdentifier) = contents_gives aligned node limits.fragments IsRelativeIdentifier
  type_gives (Some type.Utf8String) = contents_gives aligned node limits.string_fragments IsUtf8Text
  type_gives (Some type.Real) = contents_gives aligned node limits.fragments IsReal
  type_gives (Some (type.Time kind)) = time_gives aligned node limits.fragments (IsTime kind)
  type_gives (Some (type.Sequence root is_extensible known)) = sequence_by_gives is_extensible root known
  type_gives (Some (type.SequenceOf size is_extensible item)) = sequence_of_by_gives is_extensible false size item
  type_gives (Some (type.SetOf size is_extensible item)) = sequence_of_by_gives is_extensible true size item
  type_gives (Some (type.Choice alternatives is_extensible known)) = choice_by_gives is_extensible alternatives known
  type_gives (Some (type.Open inner)) = open_gives (E inner) (e inner)

pub value_at : (limits : Limits) (aligned : Bool) (nodes : List Node) (members : List Member) (ranges : List Range)
    (defaults : ℕ → ℕ → Option (List Bool)) (depth node : ℕ) → GivesValues 1 (type_at limits aligned nodes members ranges defaults depth node)
value_at limits aligned nodes members ranges defaults zero node = invalid_gives 1 TooDeep misfit.TooDeep node
value_at limits aligned nodes members ranges defaults (suc depth) node =
    type_gives limits aligned (type_at limits aligned nodes members ranges defaults depth)
    (λ n. value_at limits aligned nodes members ranges defaults depth n) members ranges defaults node (slice_get nodes node)

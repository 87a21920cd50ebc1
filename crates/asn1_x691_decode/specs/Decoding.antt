-- What a decoder did: the parts that it found, or the first fault.
use Rattle.std.specs.Prelude.{◌≡◌, ℕ, ◌+◌, ◌-◌, ◌*◌, ◌<◌, ◌≤◌, ◌⊎◌, Bool, true, false, List, [], ◌∷◌, ◌++◌, length, Option, Some, None}
use Rattle.asn1_bits.specs.Bits.{bits}
use Rattle.asn1_schema.specs.declared.part.Natural.{Natural}
use Rattle.asn1_schema.specs.declared.part.Span.{Span}
use Rattle.asn1_schema.specs.declared.part.Part.{Part}
use Rattle.asn1_schema.specs.declared.tables.Node.{Node}
use Rattle.asn1_schema.specs.declared.tables.Member.{Member}
use Rattle.asn1_schema.specs.declared.tables.Presence.{Presence}
use Rattle.asn1_schema.specs.declared.tables.Presence.TheVariants as presence
use Rattle.asn1_schema.specs.declared.tables.Length.{Length}
use Rattle.asn1_schema.specs.declared.tables.Rows.{Rows}
use Rattle.asn1_schema.specs.declared.tables.Range.{Range}
use Rattle.asn1_schema.specs.Pieces.{Absent, Count, Parts}
use Rattle.asn1_schema.specs.PiecesOfParts.{bits_at, bits_of, natural_of}
use Rattle.asn1_schema.specs.Encodings.{Encoding, Contents, Starts, constant, invalid}
use Rattle.asn1_schema.specs.TypeEncodings.{TypeEncoding, AfterHeader, several, several_by_bits}
use Rattle.asn1_x691.specs.declared.fault.FaultKind.{FaultKind}
use Rattle.asn1_x691.specs.declared.fault.FaultKind.TheVariants.{NoNode}
use Rattle.asn1_x691.specs.OpenTypes.{padding, complete, open_type}
use Rattle.asn1_x691.specs.Fragments.{most_fragments, units_below}
use Rattle.asn1_x691.specs.Lists.{numbered_items}
use Rattle.asn1_x691.specs.Limits.{Limits}
use Rattle.asn1_x691.specs.Types.{type_at, type_of, value_by, components, root_of, sequence_by, extension, addition, additions_by_bits, known_addition, sequence_of_by, sequence_of, fragment_items, items_at_least, added_items, in_order, items, choice, choice_by, choice_extension}
use Rattle.asn1_x691_fields.specs.declared.state.State.{State}
use Rattle.asn1_x691_fields.specs.Defaults.{default_in}
use Rattle.asn1_x691_fields.specs.Outcomes.{rest, position, fault_of}
use Rattle.asn1_x691_decode.specs.declared.context.Context.{Context}
use Rattle.asn1_x691_decode.specs.declared.presence.PresenceBits.{PresenceBits}
use Rattle.asn1_schema.specs.Room.{IsGrown}

-- ---- a schema

-- in this many fragments of 65,536 the items of a SEQUENCE OF are decoded: up to 2^48 items
unfoldable pub most_item_fragments : ℕ
most_item_fragments = 4294967296

-- the limits of the decoder: fragments of a BIT STRING, an OCTET STRING, a UTF8String, and of a SEQUENCE OF whose items have bits, alone; and items of a SET OF that
-- begin at octets in the ALIGNED variant
abbrev pub decoder_limits : Limits
decoder_limits = record { string_fragments = most_fragments; fragments = 0; item_fragments = most_item_fragments; fragments_have_bits = true; sets_on_octets = true }

-- the bits that encode a default value after a number of bits of an octet
abbrev pub defaults_in : Context → ℕ → ℕ → Option (List Bool)
defaults_in c = default_in c.defaults c.is_aligned

-- the types of a context, whose values are nested less deep than the depth
abbrev pub types : Context → ℕ → ℕ → ℕ → TypeEncoding FaultKind
types c depth node = type_at decoder_limits c.is_aligned c.tables.nodes.now c.tables.members.now c.tables.ranges.now
    (defaults_in c) depth node

-- ---- what a call did

-- parts were found, of which the bits from the old index to the new one are an encoding
pub record IsDecoded (ranges : List Range) (P : Parts → List Bool → Type 0) (list : List Bool) (old new : State) (was now : List Part) : Type 0 where
  pub parts : Parts
  pub starts : Starts P (rest list old) parts (rest list new)
  pub grown : IsGrown ranges list was old.count now new.count parts

-- parts were found; or the state names the first fault
abbrev pub Outcome : Context → (ℕ → Encoding FaultKind Parts) → State → State → List Part → List Part → Bool → Type 0
Outcome c A old new was now true = IsDecoded c.tables.ranges.now (A (position old)).encodes (bits c.octets.now) old new was now
Outcome c A old new was now false =
    (A (position old)).fault (rest (bits c.octets.now) old) (fault_of new)

-- items were found, of which the bits from the old index to the new one are an encoding, with `count` as their number
pub record AreDecoded (ranges : List Range) (P : ℕ × Parts → List Bool → Type 0) (list : List Bool) (old new : State) (was now : List Part)
    (count : ℕ) : Type 0 where
  pub items : Parts
  pub starts : Starts P (rest list old) (count, items) (rest list new)
  pub grown : IsGrown ranges list was old.count now new.count items

-- the same with the part that tells their number
pub record AreListed (ranges : List Range) (P : ℕ × Parts → List Bool → Type 0) (list : List Bool) (old new : State) (was now : List Part)
    (count : ℕ) : Type 0 where
  pub items : Parts
  pub starts : Starts P (rest list old) (count, items) (rest list new)
  pub grown : IsGrown ranges list was old.count now new.count (Count count ∷ items)

abbrev pub OutcomeOfItems : Context → (ℕ → Encoding FaultKind (ℕ × Parts)) → State → State → List Part → List Part → Option ℕ → Type 0
OutcomeOfItems c A old new was now (Some n) = AreDecoded c.tables.ranges.now (A (position old)).encodes (bits c.octets.now) old new was now n
OutcomeOfItems c A old new was now None = (A (position old)).fault (rest (bits c.octets.now) old) (fault_of new)

abbrev pub OutcomeOfList : Context → (ℕ → Encoding FaultKind (ℕ × Parts)) → State → State → List Part → List Part → Option ℕ → Type 0
OutcomeOfList c A old new was now (Some n) = AreListed c.tables.ranges.now (A (position old)).encodes (bits c.octets.now) old new was now n
OutcomeOfList c A old new was now None = (A (position old)).fault (rest (bits c.octets.now) old) (fault_of new)

-- the same of contents, which end where the complete encoding does
pub record IsFilled (ranges : List Range) (P : Parts → List Bool → Type 0) (list : List Bool) (old new : State) (was now : List Part) : Type 0 where
  pub parts : Parts
  pub fills : P parts (rest list old)
  pub grown : IsGrown ranges list was old.count now new.count parts

abbrev pub OutcomeOfContents : Context → Contents FaultKind Parts → State → State → List Part → List Part → Bool → Type 0
OutcomeOfContents c F old new was now true = IsFilled c.tables.ranges.now F.fills (bits c.octets.now) old new was now
OutcomeOfContents c F old new was now false = F.fault (rest (bits c.octets.now) old) (fault_of new)

-- the zeros after a complete encoding
abbrev pub IsEnd : List Bool → ℕ → State → State → Bool → Type 0
IsEnd list node old new true = (padding node (position old)).fills tt (rest list old)
IsEnd list node old new false = (padding node (position old)).fault (rest list old) (fault_of new)

-- ---- the definitions of X.691, for a context

module _ (c : Context) (depth node : ℕ) where
  abbrev defaults : ℕ → ℕ → Option (List Bool)
  defaults = defaults_in c

  -- the type of a node, where other types are nested less deep than the depth
  abbrev pub type_in : Option Node → ℕ → TypeEncoding FaultKind
  type_in = type_of decoder_limits c.is_aligned (types c depth) c.tables.members.now c.tables.ranges.now defaults node

  -- a value that is not the default
  abbrev pub value_in : Presence → ℕ → ℕ → TypeEncoding FaultKind
  value_in p inner = value_by decoder_limits c.is_aligned (types c depth) c.tables.members.now c.tables.ranges.now defaults node p (types c depth inner)

  abbrev pub components_in : ℕ → ℕ → ℕ → AfterHeader FaultKind (List Bool)
  components_in = components decoder_limits c.is_aligned (types c depth) c.tables.members.now c.tables.ranges.now defaults node

  abbrev pub root_in : Rows → ℕ → TypeEncoding FaultKind
  root_in = root_of decoder_limits c.is_aligned (types c depth) c.tables.members.now c.tables.ranges.now defaults node

  -- the same at the first position of octets of its own, and such octets after their number
  abbrev pub complete_in : Presence → ℕ → Contents FaultKind Parts
  complete_in p inner = complete node (value_in p inner)

  abbrev pub enclosed_in : Presence → ℕ → ℕ → TypeEncoding FaultKind
  enclosed_in p inner = open_type 0 c.is_aligned node (value_in p inner)

  abbrev pub sequence_in : Bool → Rows → Rows → ℕ → TypeEncoding FaultKind
  sequence_in = sequence_by decoder_limits c.is_aligned (types c depth) c.tables.members.now c.tables.ranges.now defaults node

  abbrev pub extension_in : Rows → ℕ → TypeEncoding FaultKind
  extension_in = extension decoder_limits c.is_aligned (types c depth) c.tables.members.now c.tables.ranges.now defaults node

  abbrev pub addition_in : ℕ → ℕ → ℕ → TypeEncoding FaultKind
  addition_in = addition decoder_limits c.is_aligned (types c depth) c.tables.members.now c.tables.ranges.now defaults node

  abbrev pub known_in : Option Member → ℕ → TypeEncoding FaultKind
  known_in = known_addition decoder_limits c.is_aligned (types c depth) c.tables.members.now c.tables.ranges.now defaults node

  abbrev pub additions_in : ℕ → ℕ → ℕ → ℕ → AfterHeader FaultKind (List Bool)
  additions_in = additions_by_bits decoder_limits c.is_aligned (types c depth) c.tables.members.now c.tables.ranges.now defaults node

  abbrev pub sequence_of_in : Bool → Bool → Length → ℕ → ℕ → TypeEncoding FaultKind
  sequence_of_in = sequence_of_by decoder_limits c.is_aligned (types c depth) c.tables.members.now c.tables.ranges.now defaults node

  abbrev pub root_list_in : Bool → Length → ℕ → ℕ → TypeEncoding FaultKind
  root_list_in = sequence_of decoder_limits c.is_aligned (types c depth) c.tables.members.now c.tables.ranges.now defaults node

  abbrev pub all_items_in : Bool → ℕ → ℕ → ℕ → TypeEncoding FaultKind
  all_items_in = items decoder_limits c.is_aligned (types c depth) c.tables.members.now c.tables.ranges.now defaults node

  abbrev pub at_least_in : Bool → ℕ → ℕ → ℕ → TypeEncoding FaultKind
  at_least_in = items_at_least decoder_limits c.is_aligned (types c depth) c.tables.members.now c.tables.ranges.now defaults node

  abbrev pub added_list_in : Bool → Length → ℕ → ℕ → TypeEncoding FaultKind
  added_list_in = added_items decoder_limits c.is_aligned (types c depth) c.tables.members.now c.tables.ranges.now defaults node

  -- a number of items in a fragment, or after all fragments
  abbrev pub fragment_in : ℕ → ℕ → ℕ → TypeEncoding FaultKind
  fragment_in = fragment_items decoder_limits c.is_aligned (types c depth) c.tables.members.now c.tables.ranges.now defaults node

  -- items after their number, in at most `most` fragments; and the last ones, where a fragment has a fault of a kind
  abbrev pub numbered_in : ℕ → ℕ → ℕ → Encoding FaultKind (ℕ × Parts)
  numbered_in item most = numbered_items (fragment_in item) c.is_aligned node most

  abbrev pub last_items_in : ℕ → FaultKind → ℕ → Encoding FaultKind (ℕ × Parts)
  last_items_in item kind = units_below (λ n at. (fragment_in item n at).encoding) (λ xs ys. xs ++ ys) c.is_aligned node kind

  -- an item that is not before the one of these bits, and a number of them
  abbrev pub in_order_in : ℕ → List Bool → ℕ → TypeEncoding FaultKind
  in_order_in = in_order decoder_limits c.is_aligned (types c depth) c.tables.members.now c.tables.ranges.now defaults node

  abbrev pub set_items_in : ℕ → List Bool → ℕ → ℕ → TypeEncoding FaultKind
  set_items_in item before n = several_by_bits (in_order_in item) before n

  abbrev pub choice_in : Bool → Rows → Rows → ℕ → TypeEncoding FaultKind
  choice_in = choice_by decoder_limits c.is_aligned (types c depth) c.tables.members.now c.tables.ranges.now defaults node

  abbrev pub alternatives_in : Rows → ℕ → TypeEncoding FaultKind
  alternatives_in = choice decoder_limits c.is_aligned (types c depth) c.tables.members.now c.tables.ranges.now defaults node

  abbrev pub choice_extension_in : Rows → Rows → ℕ → TypeEncoding FaultKind
  choice_extension_in = choice_extension decoder_limits c.is_aligned (types c depth) c.tables.members.now c.tables.ranges.now defaults node

  -- a component alone: a bit tells whether it is present
  abbrev pub by_presence : List Bool → (ℕ → TypeEncoding FaultKind) → ℕ → Encoding FaultKind Parts
  by_presence [] A at = invalid NoNode node
  by_presence (false ∷ bits) A at = constant (Absent ∷ [])
  by_presence (true ∷ bits) A at = (A at).encoding

  abbrev pub component_in : Presence → ℕ → List Bool → ℕ → Encoding FaultKind Parts
  component_in presence.Mandatory inner bits at = (value_in presence.Mandatory inner at).encoding
  component_in presence.Optional inner bits at = by_presence bits (value_in presence.Optional inner) at
  component_in (presence.Default v) inner bits at = by_presence bits (value_in (presence.Default v) inner) at

-- the bits that tell of the components after one
abbrev pub bits_after_one : List Bool → List Bool
bits_after_one [] = []
bits_after_one (b ∷ bits) = bits

abbrev pub bits_after : Presence → List Bool → List Bool
bits_after presence.Mandatory bits = bits
bits_after presence.Optional bits = bits_after_one bits
bits_after (presence.Default v) bits = bits_after_one bits

-- ---- bits that tell which components are present

abbrev pub told_by : List Bool → PresenceBits → List Bool
told_by list p = bits_at list p.at p.left

-- the first of them, if there is one
abbrev pub IsTold : List Bool → PresenceBits → PresenceBits → Option Bool → Type 0
IsTold list old new None = (told_by list old ≡ []) × (told_by list new ≡ [])
IsTold list old new (Some b) = told_by list old ≡ b ∷ told_by list new

abbrev pub items_in : Context → ℕ → ℕ → ℕ → ℕ → TypeEncoding FaultKind
items_in c depth item n = several (types c depth item) n

-- an item of a list begins at an index before the state, or none precedes it
pub record IsItem (c : Context) (depth item at : ℕ) (s : State) : Type 0 where
  pub parts : Parts
  pub encodes : (types c depth item (at - s.first)).encoding.encodes parts (bits_at (bits c.octets.now) at (s.at - at))

pub record IsItemBefore (c : Context) (depth item at : ℕ) (s : State) : Type 0 where
  pub begins : s.first ≤ at
  pub ends : at ≤ s.at
  pub is : (at ≡ s.at) ⊎ IsItem c depth item at s

-- the index of an addition, where it is below their number
abbrev pub IsIndex : List Bool → Natural → ℕ → Option ℕ → Type 0
IsIndex list n count None = count ≤ natural_of list n
IsIndex list n count (Some i) = (natural_of list n ≡ i) × (i < count)

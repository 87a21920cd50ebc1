-- What an encoder did: it wrote an encoding of the next parts, or it names the first misfit.
use Rattle.std.specs.Prelude.{◌≡◌, ℕ, ◌+◌, ◌^◌, ◌⊎◌, ◌<◌, ◌≤◌, nat_lt, Bool, true, false, List, ◌++◌, length, drop, map, Option, Some, slice_get}
use Rattle.asn1_schema.specs.declared.misfit.MisfitKind.{MisfitKind}
use Rattle.asn1_schema.specs.declared.part.Part.{Part}
use Rattle.asn1_schema.specs.declared.tables.Length.{Length}
use Rattle.asn1_schema.specs.declared.tables.Member.{Member}
use Rattle.asn1_schema.specs.declared.tables.Presence.{Presence}
use Rattle.asn1_schema.specs.declared.tables.Node.{Node}
use Rattle.asn1_schema.specs.declared.tables.Node.TheVariants as type
use Rattle.asn1_schema.specs.declared.tables.Rows.{Rows}
use Rattle.asn1_schema.specs.Pieces.{Piece, Parts, UnknownChosen}
use Rattle.asn1_schema.specs.TypeEncodings.{TypeEncoding, AfterHeader, both, header}
use Rattle.asn1_x691.specs.Fragments.{most_fragments}
use Rattle.asn1_x691.specs.Limits.{no_limits, IsOffOctet}
use Rattle.asn1_x691.specs.Lists.{items_in_fragments, items_below}
use Rattle.asn1_x691.specs.OpenTypes.{complete, open_type}
use Rattle.asn1_schema.specs.Fields.{raw_bits}
use Rattle.asn1_x691.specs.declared.fault.FaultKind.{FaultKind}
use Rattle.asn1_x691.specs.declared.fault.FaultKind.TheVariants.{Short}
use Rattle.asn1_x691.specs.Types.{type_at, value_by, items, in_order, sequence_of, fragment_items, added_items, sequence_of_by, alternative_if, choice, choice_by, choice_extension, sequence, sequence_by, root_of, components, known_addition, addition, additions_by_bits, some_additions, extension}
use Rattle.asn1_x691_fields.specs.Defaults.{default_in}
use Rattle.asn1_x691_writers.specs.declared.contents.ContentsKind.{ContentsKind}
use Rattle.asn1_x691_writers.specs.declared.contents.ContentsKind.TheVariants as kind
use Rattle.asn1_x691_writers.specs.declared.state.Writer.{Writer}
use Rattle.asn1_x691_writers.specs.declared.state.Rejection.TheVariants.{Misfit, Unsupported, NoRoom}
use Rattle.asn1_x691_writers.specs.Put.{piece_in, IsFarInteger, IsFarIndex, IsInFragments, HasManyBits}
use Rattle.asn1_x691_writers.specs.Written.{IsAlike, IsWritten}
use Rattle.asn1_x691_encode.specs.declared.context.Context.{Context}

-- the parts from an index on
abbrev pub tape : Context → ℕ → Parts
tape c next = map (piece_in c.tables.ranges.now c.source.now) (drop next c.parts.now)

-- the bits that encode a default value after a number of bits of an octet
abbrev pub defaults_in : Context → ℕ → ℕ → Option (List Bool)
defaults_in c = default_in c.defaults c.is_aligned

-- the types of a context, whose values are nested less deep than the depth
abbrev pub types : Context → ℕ → ℕ → ℕ → TypeEncoding FaultKind
types c depth node = type_at no_limits c.is_aligned c.tables.nodes.now c.tables.members.now c.tables.ranges.now (defaults_in c) depth node

-- `n` items that are nested less deep than the depth, those of a SET OF in ascending order; and an item after the bits of another
abbrev pub items_in : Context → ℕ → ℕ → Bool → ℕ → ℕ → ℕ → TypeEncoding FaultKind
items_in c depth node is_set item n =
    items no_limits c.is_aligned (types c depth) c.tables.members.now c.tables.ranges.now (defaults_in c) node is_set item n

abbrev pub in_order_in : Context → ℕ → ℕ → ℕ → List Bool → ℕ → TypeEncoding FaultKind
in_order_in c depth node item before =
    in_order no_limits c.is_aligned (types c depth) c.tables.members.now c.tables.ranges.now (defaults_in c) node item before

-- a SEQUENCE OF or a SET OF without an extension marker, one that has one, one whose number of items is none of the root, and each
abbrev pub list_in : Context → ℕ → ℕ → Bool → Length → ℕ → ℕ → TypeEncoding FaultKind
list_in c depth node is_set size item =
    sequence_of no_limits c.is_aligned (types c depth) c.tables.members.now c.tables.ranges.now (defaults_in c) node is_set size item

abbrev pub list_by : Context → ℕ → ℕ → Bool → Bool → Length → ℕ → ℕ → TypeEncoding FaultKind
list_by c depth node is_extensible is_set size item =
    sequence_of_by no_limits c.is_aligned (types c depth) c.tables.members.now c.tables.ranges.now (defaults_in c) node is_extensible is_set
    size item

abbrev pub extensible_list_in : Context → ℕ → ℕ → Bool → Length → ℕ → ℕ → TypeEncoding FaultKind
extensible_list_in c depth node is_set size item = list_by c depth node true is_set size item

abbrev pub added_list_in : Context → ℕ → ℕ → Bool → Length → ℕ → ℕ → TypeEncoding FaultKind
added_list_in c depth node is_set size item =
    added_items no_limits c.is_aligned (types c depth) c.tables.members.now c.tables.ranges.now (defaults_in c) node is_set size item

-- `n` items of a SEQUENCE OF in a fragment, all items after their number, and fewer than 65,536
abbrev pub fragment_in : Context → ℕ → ℕ → ℕ → ℕ → ℕ → TypeEncoding FaultKind
fragment_in c depth node item n =
    fragment_items no_limits c.is_aligned (types c depth) c.tables.members.now c.tables.ranges.now (defaults_in c) node item n

abbrev pub numbered_in : Context → ℕ → ℕ → ℕ → ℕ → ℕ → TypeEncoding FaultKind
numbered_in c depth node item count = items_in_fragments (fragment_in c depth node item) c.is_aligned node count

abbrev pub below_in : Context → ℕ → ℕ → ℕ → ℕ → ℕ → TypeEncoding FaultKind
below_in c depth node item count = items_below (fragment_in c depth node item) c.is_aligned node (nat_lt count 16384) count

-- a choice of alternatives that are nested less deep than the depth, one that has an extension marker, and the alternative of an index
abbrev pub choice_in : Context → ℕ → ℕ → Rows → ℕ → TypeEncoding FaultKind
choice_in c depth node rows =
    choice no_limits c.is_aligned (types c depth) c.tables.members.now c.tables.ranges.now (defaults_in c) node rows

abbrev pub extensible_choice_in : Context → ℕ → ℕ → Rows → Rows → ℕ → TypeEncoding FaultKind
extensible_choice_in c depth node rows known =
    choice_by no_limits c.is_aligned (types c depth) c.tables.members.now c.tables.ranges.now (defaults_in c) node true rows known

abbrev pub choice_extension_in : Context → ℕ → ℕ → Rows → Rows → ℕ → TypeEncoding FaultKind
choice_extension_in c depth node rows known =
    choice_extension no_limits c.is_aligned (types c depth) c.tables.members.now c.tables.ranges.now (defaults_in c) node rows known

abbrev pub alternative_in : Context → ℕ → ℕ → Rows → ℕ → ℕ → TypeEncoding FaultKind
alternative_in c depth node rows i =
    alternative_if no_limits c.is_aligned (types c depth) c.tables.members.now c.tables.ranges.now (defaults_in c) node
    (nat_lt i rows.count) (slice_get c.tables.members.now (rows.from + i))

-- a SEQUENCE without an extension marker, of components that are nested less deep than the depth, what follows its first part, and its
-- components, which are members from an index on
abbrev pub sequence_in : Context → ℕ → ℕ → Rows → ℕ → TypeEncoding FaultKind
sequence_in c depth node root =
    sequence no_limits c.is_aligned (types c depth) c.tables.members.now c.tables.ranges.now (defaults_in c) node root

abbrev pub root_in : Context → ℕ → ℕ → Rows → ℕ → TypeEncoding FaultKind
root_in c depth node root =
    root_of no_limits c.is_aligned (types c depth) c.tables.members.now c.tables.ranges.now (defaults_in c) node root

abbrev pub components_in : Context → ℕ → ℕ → ℕ → ℕ → ℕ → AfterHeader FaultKind (List Bool)
components_in c depth node count from =
    components no_limits c.is_aligned (types c depth) c.tables.members.now c.tables.ranges.now (defaults_in c) node count from

-- a SEQUENCE that has an extension marker, its root with additions, what follows the root, and its additions, which are members from
-- an index on
abbrev pub extensible_sequence_in : Context → ℕ → ℕ → Rows → Rows → ℕ → TypeEncoding FaultKind
extensible_sequence_in c depth node root known =
    sequence_by no_limits c.is_aligned (types c depth) c.tables.members.now c.tables.ranges.now (defaults_in c) node true root known

abbrev pub extension_in : Context → ℕ → ℕ → Rows → ℕ → TypeEncoding FaultKind
extension_in c depth node known =
    extension no_limits c.is_aligned (types c depth) c.tables.members.now c.tables.ranges.now (defaults_in c) node known

abbrev pub extended_in : Context → ℕ → ℕ → Rows → Rows → ℕ → TypeEncoding FaultKind
extended_in c depth node root known = both (root_in c depth node root) (extension_in c depth node known)

-- `count` additions after the bits that tell which of them are present
abbrev pub present_additions_in : Context → ℕ → ℕ → Rows → ℕ → ℕ → TypeEncoding FaultKind
present_additions_in c depth node known count =
    header (raw_bits count Short node) count
    (some_additions no_limits c.is_aligned (types c depth) c.tables.members.now c.tables.ranges.now (defaults_in c) node count known) node

abbrev pub additions_in : Context → ℕ → ℕ → ℕ → ℕ → ℕ → ℕ → AfterHeader FaultKind (List Bool)
additions_in c depth node count known from =
    additions_by_bits no_limits c.is_aligned (types c depth) c.tables.members.now c.tables.ranges.now (defaults_in c) node count known from

-- an addition, which is known unless `known` is 0; and a known one
abbrev pub addition_in : Context → ℕ → ℕ → ℕ → ℕ → ℕ → TypeEncoding FaultKind
addition_in c depth node known from =
    addition no_limits c.is_aligned (types c depth) c.tables.members.now c.tables.ranges.now (defaults_in c) node known from

abbrev pub known_in : Context → ℕ → ℕ → Option Member → ℕ → TypeEncoding FaultKind
known_in c depth node m =
    known_addition no_limits c.is_aligned (types c depth) c.tables.members.now c.tables.ranges.now (defaults_in c) node m

-- a value that is not the default, and an open type of it
abbrev pub value_in : Context → ℕ → ℕ → Presence → ℕ → ℕ → TypeEncoding FaultKind
value_in c depth node p inner =
    value_by no_limits c.is_aligned (types c depth) c.tables.members.now c.tables.ranges.now (defaults_in c) node p (types c depth inner)

abbrev pub open_in : Context → ℕ → ℕ → Presence → ℕ → ℕ → TypeEncoding FaultKind
open_in c depth node p inner = open_type most_fragments c.is_aligned node (value_in c depth node p inner)

-- bits that encode the next parts were written, up to another index
pub record IsEncoded (c : Context) (A : ℕ → TypeEncoding FaultKind) (was : List ℕ) (old : Writer) (now : List ℕ) (new : Writer)
    : Type 0 where
  pub parts : Parts
  pub written : IsWritten c.is_aligned (λ at. (A at).encoding) parts was old.at now new.at
  pub taken : tape c old.next ≡ parts ++ tape c new.next

-- the next parts begin with no value, and the state names their first misfit: it is before the next part
pub record IsFirstMisfit (c : Context) (A : ℕ → TypeEncoding FaultKind) (old new : Writer) : Type 0 where
  pub kind : MisfitKind
  pub reason : new.reason ≡ Misfit kind
  pub first : (at : ℕ) → IsAlike c.is_aligned at old.at
      → (A at).misfit (tape c old.next) (record { node = new.node; left = length (tape c new.next); kind = kind })

-- ---- what is not encoded yet

-- the next part is in fragments, of octets or of bits
pub record IsFragmented (c : Context) (InFragments : Part → Type 0) (next : ℕ) : Type 0 where
  pub part : Part
  pub is : slice_get c.parts.now next ≡ Some part
  pub in_fragments : InFragments part

-- BIT STRING of 2^64 bits and more, REAL and identifiers in fragments
abbrev pub IsLater : Context → ℕ → Option Node → Type 0
IsLater c next (Some (type.BitString size is_extensible has_names)) = IsFragmented c (HasManyBits c.source.now) next
IsLater c next (Some type.ObjectIdentifier) = IsFragmented c IsInFragments next
IsLater c next (Some type.RelativeIdentifier) = IsFragmented c IsInFragments next
IsLater c next (Some type.Real) = IsFragmented c IsInFragments next
IsLater c next o = ⊥

-- the type of octets of a kind
abbrev pub node_of : ContentsKind → Node
node_of kind.ObjectIdentifier = type.ObjectIdentifier
node_of kind.RelativeIdentifier = type.RelativeIdentifier
node_of kind.Utf8 = type.Utf8String
node_of kind.Real = type.Real

-- an unknown alternative of an index from 2^128 on
abbrev pub IsFarAlternative : Piece → Type 0
IsFarAlternative p = (n : ℕ) × (p ≡ UnknownChosen n) × (2 ^ 128 ≤ n)

-- a number that is too large for the encoder
pub record IsFar (c : Context) (next : ℕ) : Type 0 where
  pub part : Part
  pub is : slice_get c.parts.now next ≡ Some part
  pub far : (IsFarInteger (piece_in c.tables.ranges.now c.source.now part) ⊎ IsFarIndex (piece_in c.tables.ranges.now c.source.now part))
      ⊎ IsFarAlternative (piece_in c.tables.ranges.now c.source.now part)

-- the next parts have a complete encoding of 16,384 octets or more: an open type of it is in fragments
pub record IsLong (c : Context) (next : ℕ) : Type 0 where
  pub depth : ℕ
  pub node : ℕ
  pub presence : Presence
  pub inner : ℕ
  pub parts : Parts
  pub list : List Bool
  pub rest : Parts
  pub encodes : (complete node (value_in c depth node presence inner)).fills parts list
  pub are : tape c next ≡ parts ++ rest
  pub many : 131072 ≤ length list

-- the next parts have an encoding of more than 504 bits
pub record IsWide (c : Context) (next : ℕ) : Type 0 where
  pub depth : ℕ
  pub inner : ℕ
  pub at : ℕ
  pub parts : Parts
  pub list : List Bool
  pub rest : Parts
  pub encodes : (types c depth inner at).encoding.encodes parts list
  pub are : tape c next ≡ parts ++ rest
  pub many : 504 < length list

-- the next parts are two values of a type whose encodings have more than 504 bits
pub record AreWide (c : Context) (next : ℕ) : Type 0 where
  pub depth : ℕ
  pub item : ℕ
  pub began : ℕ
  pub at : ℕ
  pub xs : Parts
  pub ys : Parts
  pub before : List Bool
  pub list : List Bool
  pub rest : Parts
  pub first : (types c depth item began).encoding.encodes xs before
  pub second : (types c depth item at).encoding.encodes ys list
  pub are : tape c next ≡ xs ++ (ys ++ rest)
  pub many : 504 < length before + length list

-- the next parts are an item of a SET OF in the ALIGNED variant, which does not begin at an octet, or follows one that does not
pub record IsOff (c : Context) (next : ℕ) : Type 0 where
  pub depth : ℕ
  pub item : ℕ
  pub at : ℕ
  pub parts : Parts
  pub list : List Bool
  pub rest : Parts
  pub encodes : (types c depth item at).encoding.encodes parts list
  pub are : tape c next ≡ parts ++ rest
  pub before : List Bool
  pub off : IsOffOctet true c.is_aligned before at

-- The next parts are left: they are not encoded yet, or they were to be compared in octets that are too few for them.
abbrev pub IsLeft : Context → Writer → Type 0
IsLeft c new = ((new.reason ≡ Unsupported)
    × (IsLater c new.next (slice_get c.tables.nodes.now new.node) ⊎ (IsFar c new.next ⊎ (IsLong c new.next ⊎ IsOff c new.next))))
    ⊎ ((new.reason ≡ NoRoom) × (IsWide c new.next ⊎ AreWide c new.next))

-- the next parts were encoded, or the state tells why not
abbrev pub Outcome : Context → (ℕ → TypeEncoding FaultKind) → List ℕ → Writer → List ℕ → Writer → Bool → Type 0
Outcome c A was old now new true = IsEncoded c A was old now new
Outcome c A was old now new false = IsFirstMisfit c A old new ⊎ IsLeft c new

-- What an encoder did: it wrote an encoding of the next parts, or it names the first misfit.
use Rattle.std.specs.Prelude.{◌≡◌, ℕ, ◌+◌, ◌/◌, ◌%◌, ◌^◌, ◌⊎◌, ◌<◌, ◌≤◌, ⊤, Bool, true, false, List, [], ◌++◌, length, drop, map, Option, Some, None, slice_get}
use Rattle.asn1_schema.specs.declared.misfit.MisfitKind.{MisfitKind}
use Rattle.asn1_schema.specs.declared.misfit.MisfitKind.TheVariants.{OtherPart}
use Rattle.asn1_schema.specs.declared.part.Part.{Part}
use Rattle.asn1_schema.specs.declared.tables.Length.{Length}
use Rattle.asn1_schema.specs.declared.tables.Node.{Node}
use Rattle.asn1_schema.specs.declared.tables.Node.TheVariants as type
use Rattle.asn1_schema.specs.Encodings.{Starts}
use Rattle.asn1_schema.specs.Pieces.{Parts, Octets, Sequence, Unknown}
use Rattle.asn1_schema.specs.TypeEncodings.{Misfit, TypeEncoding}
use Rattle.asn1_x690.specs.declared.fault.FaultKind.{FaultKind}
use Rattle.asn1_x690.specs.declared.fault.FaultKind.TheVariants.{Extra, Missing, OtherTag}
use Rattle.asn1_x690.specs.declared.tables.Tag.{Tag}
use Rattle.asn1_x690.specs.declared.tables.Identifier.{Identifier}
use Rattle.asn1_x690.specs.declared.tables.TypeTags.{TypeTags}
use Rattle.asn1_x690.specs.declared.tables.FirstTags.{FirstTags}
use Rattle.asn1_schema.specs.declared.tables.Rows.{Rows}
use Rattle.asn1_x690.specs.Der as der
use Rattle.asn1_x690.specs.Elements.{identifier, any_element}
use Rattle.asn1_x690.specs.TypeContents.{TypeContents, ToldContents, ByHeader, FillsWith, nothing_more, required, present, prefixed, to_end, renamed, invalid_header, only_value, only_header}
use Rattle.asn1_x690_fields.specs.declared.identifier.FoundIdentifier.{FoundIdentifier}
use Rattle.asn1_x690_fields.specs.Outcomes.{IsIdentifier}
use Rattle.asn1_x690_writers.specs.Leaf.{leaf_in, IsLeftOut}
use Rattle.asn1_x690_writers.specs.Written.{IsLengthBefore}
use Rattle.asn1_x691_fields.specs.Defaults.{default_in}
use Rattle.asn1_x691_writers.specs.declared.state.Writer.{Writer}
use Rattle.asn1_x691_writers.specs.declared.state.Rejection.TheVariants as rejection
use Rattle.asn1_x691_writers.specs.Put.{piece_in, IsInFragments}
use Rattle.asn1_x691_writers.specs.Written.{IsGrown}
use Rattle.asn1_x690_encode.specs.declared.context.Context.{Context}
use Rattle.asn1_x690_encode.specs.declared.inner.Inner.{Inner}
use Rattle.asn1_x690_encode.specs.declared.inner.Inner.TheVariants.{Own, Tagged, Around}
use Rattle.asn1_x690_encode.specs.declared.sequence.LeftAdditions.{LeftAdditions}
use Rattle.asn1_x690_encode.specs.declared.sequence.Tail.{Tail}
use Rattle.asn1_x690_encode.specs.declared.sequence.Tail.TheVariants as ending
use Rattle.asn1_x690_encode.specs.declared.choice.Others.{Others}
use Rattle.asn1_x690_encode.specs.declared.choice.Others.TheVariants as others
use Rattle.asn1_schema.specs.declared.tables.Presence.{Presence}
use Rattle.asn1_x690_encode.specs.Kinds.{is_structured, identifier_by}

-- the parts from an index on
abbrev pub tape : Context → ℕ → Parts
tape c next = map (piece_in c.tables.ranges.now c.source.now) (drop next c.parts.now)

-- the tables of a context
abbrev pub tables_of : Context → der.Context
tables_of c = record {
  members = c.tables.members.now;
  ranges = c.tables.ranges.now;
  types = c.tags.types.now;
  firsts = c.tags.members.now;
  tags = c.tags.tags.now;
  numbers = c.tags.numbers.now;
  defaults = λ value. default_in c.defaults false value 0;
}

-- the items of a SET OF; where they need no order, those of a SEQUENCE OF
abbrev pub items_by : Bool → Length → Bool → ℕ → Node
items_by false size is_extensible item = type.SequenceOf size is_extensible item
items_by true size is_extensible item = type.SetOf size is_extensible item

abbrev pub node_by : Bool → Node → Node
node_by ordered (type.SetOf size is_extensible item) = items_by ordered size is_extensible item
node_by ordered n = n

abbrev pub nodes_by : Bool → List Node → List Node
nodes_by false nodes = map (node_by false) nodes
nodes_by true nodes = nodes

-- the nodes of a context
abbrev pub nodes_of : Context → List Node
nodes_of c = nodes_by c.is_ordered c.tables.nodes.now

-- the types of a context, whose values are nested less deep than the depth
abbrev pub types : Context → ℕ → ℕ → ByHeader FaultKind Identifier
types c depth node = der.type_at (nodes_of c) (tables_of c) depth node

-- the tables have this type at a node
abbrev pub HasType : Context → ℕ → Node → TypeTags → Type 0
HasType c node n t = (slice_get c.tables.nodes.now node ≡ Some n) × (slice_get c.tags.types.now node ≡ Some t)

-- the contents that the last tag of a type encloses
abbrev pub contents_in : Context → ℕ → ℕ → TypeTags → Node → TypeContents FaultKind
contents_in c depth node t (type.Sequence root is_extensible known) =
    der.sequence_by (types c depth) (tables_of c) node is_extensible root known
contents_in c depth node t (type.SequenceOf size is_extensible item) =
    der.sequence_of (types c depth) (tables_of c) node false is_extensible size item
contents_in c depth node t (type.SetOf size is_extensible item) =
    der.sequence_of (types c depth) (tables_of c) node c.is_ordered is_extensible size item
contents_in c depth node t n = leaf_in c.tables.ranges.now c.tags.numbers.now node t n

-- the elements that are around no other tag of a type
abbrev pub headed_by : Context → ℕ → ℕ → Bool → Node → ByHeader FaultKind Identifier
headed_by c depth node true n = der.any_value Octets node
headed_by c depth node false (type.Choice root is_extensible known) =
    der.choice_by (types c depth) (tables_of c) node is_extensible root known
headed_by c depth node false (type.Open inner) = types c depth inner
headed_by c depth node false n = der.no_type node

abbrev pub headed_in : Context → ℕ → ℕ → TypeTags → Node → ByHeader FaultKind Identifier
headed_in c depth node t n = headed_by c depth node t.is_any n

-- elements of such tags, the last of which is the type's own; and elements around others
abbrev pub tagged_in : Context → ℕ → ℕ → TypeTags → Node → List Tag → ByHeader FaultKind Identifier
tagged_in c depth node t n tags = der.tagged node (identifier_by (is_structured n)) tags (contents_in c depth node t n)

abbrev pub around_in : Context → ℕ → ℕ → TypeTags → Node → List Tag → ByHeader FaultKind Identifier
around_in c depth node t n tags = der.around node tags (headed_in c depth node t n)

-- what an element encloses
abbrev pub inner_in : Context → ℕ → ℕ → Inner → TypeContents FaultKind
inner_in c depth node (Own n t) = contents_in c depth node t.now n.now
inner_in c depth node (Tagged n t tags) = only_value Extra node (der.element node (tagged_in c depth node t.now n.now tags.now))
inner_in c depth node (Around n t tags) = only_value Extra node (der.element node (around_in c depth node t.now n.now tags.now))

-- how many tags it has
abbrev pub inner_size : Inner → ℕ
inner_size (Own n t) = 0
inner_size (Tagged n t tags) = length tags.now
inner_size (Around n t tags) = length tags.now

-- it is of the type at the node
abbrev pub IsInnerOf : Context → ℕ → Inner → Type 0
IsInnerOf c node (Own n t) = HasType c node n.now t.now
IsInnerOf c node (Tagged n t tags) = HasType c node n.now t.now
IsInnerOf c node (Around n t tags) = HasType c node n.now t.now

-- an element of one identifier
abbrev pub enclosed_in : Context → ℕ → ℕ → Identifier → Inner → ByHeader FaultKind Identifier
enclosed_in c depth node id inner = only_header id OtherTag node (inner_in c depth node inner)

-- unknown additions, after `known` that the schema knows
abbrev pub unknown_in : ℕ → ℕ → ToldContents FaultKind ℕ
unknown_in node known = renamed (λ n. known + n) node (to_end Extra node (λ before. der.element node (der.any_value Unknown node)))

-- the additions of a type that knows these, or none
abbrev pub extension_in : Context → ℕ → ℕ → Rows → ToldContents FaultKind Bool
extension_in c depth node known = der.extension (types c depth) (tables_of c) node known

-- the additions that are left
abbrev pub added_in : Context → ℕ → ℕ → LeftAdditions → ToldContents FaultKind ℕ
added_in c depth node left = der.additions (types c depth) (tables_of c) node left.rows.count left.rows.from (unknown_in node left.known)

-- what follows components, and what it tells
abbrev pub told_by : Tail → Type 0
told_by ending.End = ⊤
told_by (ending.Extension known is_extended) = Bool
told_by (ending.Additions left) = ℕ

abbrev pub told_of : (tail : Tail) → told_by tail
told_of ending.End = tt
told_of (ending.Extension known is_extended) = is_extended
told_of (ending.Additions left) = left.count

abbrev pub after_root : Context → ℕ → ℕ → (tail : Tail) → ToldContents FaultKind (told_by tail)
after_root c depth node ending.End = nothing_more Extra node
after_root c depth node (ending.Extension known is_extended) = extension_in c depth node known
after_root c depth node (ending.Additions left) = added_in c depth node left

-- `count` components, and what follows them
abbrev pub components_in : Context → ℕ → ℕ → ℕ → ℕ → (tail : Tail) → ToldContents FaultKind (told_by tail)
components_in c depth node count from tail = der.components (types c depth) (tables_of c) node count from (after_root c depth node tail)

-- an addition group, and its components after their part, before others
abbrev pub group_in : Context → ℕ → ℕ → FirstTags → Rows → LeftAdditions → ToldContents FaultKind ℕ
group_in c depth node first rows others = der.group (types c depth) (tables_of c) node first rows (added_in c depth node others)

abbrev pub grouped_in : Context → ℕ → ℕ → Rows → LeftAdditions → ToldContents FaultKind ℕ
grouped_in c depth node rows others =
    prefixed (Sequence rows.count false) node
    (der.components (types c depth) (tables_of c) node rows.count rows.from (added_in c depth node others))

-- a value that is not the default
abbrev pub value_in : Context → ℕ → ℕ → Presence → ℕ → TypeEncoding FaultKind
value_in c depth node p inner = der.value_by (types c depth) (tables_of c) node p (der.element inner (types c depth inner))

-- an item that is not before the one that precedes it
abbrev pub in_order_in : Context → ℕ → ℕ → ℕ → List Bool → TypeEncoding FaultKind
in_order_in c depth node item before =
    der.in_order (types c depth) (tables_of c) node true (der.element item (types c depth item)) before

-- items to the end, with their number; and alternatives from an index on
abbrev pub items_in : Context → ℕ → ℕ → Bool → ℕ → ToldContents FaultKind ℕ
items_in c depth node is_set item =
    to_end Extra node (der.in_order (types c depth) (tables_of c) node is_set (der.element item (types c depth item)))

abbrev pub FillsItems : Context → ℕ → ℕ → Bool → ℕ → ℕ → Parts → List Bool → Type 0
FillsItems c depth node is_set item n = FillsWith (items_in c depth node is_set item) n

abbrev pub ItemsMisfit : Context → ℕ → ℕ → Bool → ℕ → ℕ → Parts → Misfit → Type 0
ItemsMisfit c depth node is_set item n = (items_in c depth node is_set item).misfit n

-- what follows alternatives
abbrev pub others_in : Context → ℕ → ℕ → Others → ByHeader FaultKind Identifier
others_in c depth node others.Nothing = invalid_header OtherTag OtherPart node
others_in c depth node (others.Additions before known) =
    der.alternatives (types c depth) (tables_of c) node known.count before known.from (der.any_value Unknown node)
others_in c depth node others.Unknown = der.any_value Unknown node

-- with an extension marker the alternatives of additions follow
abbrev pub others_by : Bool → ℕ → Rows → Others
others_by false before known = others.Nothing
others_by true before known = others.Additions before known

abbrev pub alternatives_in : Context → ℕ → ℕ → ℕ → ℕ → ℕ → Others → ByHeader FaultKind Identifier
alternatives_in c depth node index count from after =
    der.alternatives (types c depth) (tables_of c) node count index from (others_in c depth node after)

-- a value at a node, a component that must be present, and one that may be absent
abbrev pub element_in : Context → ℕ → ℕ → TypeEncoding FaultKind
element_in c depth inner = der.element inner (types c depth inner)

abbrev pub required_in : Context → ℕ → ℕ → ℕ → ℕ → ℕ → (tail : Tail) → ToldContents FaultKind (told_by tail)
required_in c depth node inner count from tail =
    required Missing inner (present (element_in c depth inner) (components_in c depth node count from tail))

abbrev pub optional_in : Context → ℕ → ℕ → Presence → FirstTags → ℕ → ℕ → ℕ → (tail : Tail) → ToldContents FaultKind (told_by tail)
optional_in c depth node p first inner count from tail =
    der.optional (types c depth) (tables_of c) node (Some first) (value_in c depth node p inner) (components_in c depth node count from tail)

-- ---- what was written

-- whole octets were written, up to another index, of which P says that the next parts are encoded by them
pub record IsFilled (c : Context) (P : Parts → List Bool → Type 0) (was : List ℕ) (old : Writer) (now : List ℕ) (new : Writer)
    : Type 0 where
  pub parts : Parts
  pub list : List Bool
  pub fills : P parts list
  pub whole : length list % 8 ≡ 0
  pub grown : IsGrown was old.at now new.at list
  pub taken : tape c old.next ≡ parts ++ tape c new.next

-- bits are an element of this identifier, as it is found
pub record IsElementOf (B : ByHeader FaultKind Identifier) (found : FoundIdentifier) (parts : Parts) (list : List Bool) : Type 0 where
  pub id : Identifier
  pub shown : IsIdentifier found id
  pub contents : List Bool
  pub fills : (B.contents id).fills parts contents
  pub encodes : (n : ℕ) → (any_element n).encodes (id, contents) list

-- bits begin with an identifier, as it is found; or there are none
abbrev pub BeginsWith : Option FoundIdentifier → List Bool → Type 0
BeginsWith None list = list ≡ []
BeginsWith (Some found) list = (id : Identifier) × (rest : List Bool) × IsIdentifier found id × Starts (identifier 0).encodes list id rest

abbrev pub BeginFilled : (Parts → List Bool → Type 0) → Option FoundIdentifier → Parts → List Bool → Type 0
BeginFilled P first parts list = P parts list × BeginsWith first list

-- the next parts begin with no value, and the state names their first misfit: it is before the next part
pub record IsFirstMisfit (c : Context) (W : Parts → Misfit → Type 0) (old new : Writer) : Type 0 where
  pub kind : MisfitKind
  pub reason : new.reason ≡ rejection.Misfit kind
  pub first : W (tape c old.next) (record { node = new.node; left = length (tape c new.next); kind = kind })

-- The octets are a length and contents that F says the next parts have, `size` bits together. If there are too few octets, nothing is
-- said of them.
pub record IsBody (c : Context) (F : TypeContents FaultKind) (old : Writer) (now : List ℕ) (new : Writer) (size : ℕ) : Type 0 where
  pub parts : Parts
  pub contents : List Bool
  pub width : ℕ
  pub fills : F.contents.fills parts contents
  pub whole : length contents % 8 ≡ 0
  pub octets : width % 8 ≡ 0
  pub before : IsLengthBefore contents (length contents / 8) now width
  pub are : size ≡ width + length contents
  pub taken : tape c old.next ≡ parts ++ tape c new.next

-- ---- what is not encoded yet

-- the next part, of the type at the node, is one that is not written yet; where any element is a value, octets in fragments
pub record IsPartLeft (c : Context) (node next : ℕ) : Type 0 where
  pub kind : Node
  pub tags : TypeTags
  pub type : HasType c node kind tags
  pub part : Part
  pub is : slice_get c.parts.now next ≡ Some part
  pub left : IsLeftOut c.source.now kind part (piece_in c.tables.ranges.now c.source.now part) ⊎ ((tags.is_any ≡ true) × IsInFragments part)

-- the next parts are contents of the type at the node, of nearly 2^61 octets
pub record IsLong (c : Context) (node next : ℕ) : Type 0 where
  pub depth : ℕ
  pub inner : Inner
  pub type : IsInnerOf c node inner
  pub parts : Parts
  pub list : List Bool
  pub rest : Parts
  pub fills : (inner_in c depth node inner).contents.fills parts list
  pub are : tape c next ≡ parts ++ rest
  pub many : 2 ^ 64 ≤ length list + 136

-- the next parts are a value of the type at the node, which has an encoding of more than 504 bits
pub record IsWide (c : Context) (node next : ℕ) : Type 0 where
  pub depth : ℕ
  pub parts : Parts
  pub list : List Bool
  pub rest : Parts
  pub encodes : (element_in c depth node).encoding.encodes parts list
  pub are : tape c next ≡ parts ++ rest
  pub many : 504 < length list

-- the next parts are two values of the type at the node, which have encodings of more than 504 bits
pub record AreWide (c : Context) (node next : ℕ) : Type 0 where
  pub depth : ℕ
  pub xs : Parts
  pub ys : Parts
  pub before : List Bool
  pub list : List Bool
  pub rest : Parts
  pub first : (element_in c depth node).encoding.encodes xs before
  pub second : (element_in c depth node).encoding.encodes ys list
  pub are : tape c next ≡ xs ++ (ys ++ rest)
  pub many : 504 < length before + length list

-- The next parts are left: they are not encoded yet, or they were to be compared in octets that are too few for them.
abbrev pub IsLeft : Context → Writer → Type 0
IsLeft c new = ((new.reason ≡ rejection.Unsupported) × (IsPartLeft c new.node new.next ⊎ IsLong c new.node new.next))
    ⊎ ((new.reason ≡ rejection.NoRoom) × (IsWide c new.node new.next ⊎ AreWide c new.node new.next))

-- ---- what a call did

abbrev pub IsStopped : Context → (Parts → Misfit → Type 0) → Writer → Writer → Type 0
IsStopped c W old new = IsFirstMisfit c W old new ⊎ IsLeft c new

-- the next parts were encoded, or the state tells why not
abbrev pub Outcome : Context → (Parts → List Bool → Type 0) → (Parts → Misfit → Type 0) → List ℕ → Writer → List ℕ → Writer → Bool → Type 0
Outcome c P W was old now new true = IsFilled c P was old now new
Outcome c P W was old now new false = IsStopped c W old new

-- the same, and with which identifier the bits begin
abbrev pub FirstOutcome : Context → (Parts → List Bool → Type 0) → (Parts → Misfit → Type 0) → List ℕ → Writer → List ℕ → Writer
    → Option (Option FoundIdentifier) → Type 0
FirstOutcome c P W was old now new (Some first) = IsFilled c (BeginFilled P first) was old now new
FirstOutcome c P W was old now new None = IsStopped c W old new

abbrev pub ToldOutcome : {X : Type 0} → Context → ToldContents FaultKind X → X → List ℕ → Writer → List ℕ → Writer
    → Option (Option FoundIdentifier) → Type 0
ToldOutcome c F x was old now new r = FirstOutcome c (FillsWith F x) (F.misfit x) was old now new r

-- the same of an element
abbrev pub ElementOutcome : Context → ByHeader FaultKind Identifier → List ℕ → Writer → List ℕ → Writer → Option FoundIdentifier → Type 0
ElementOutcome c B was old now new (Some found) = IsFilled c (IsElementOf B found) was old now new
ElementOutcome c B was old now new None = IsStopped c B.misfit old new

-- an element of which A says the encodings
abbrev pub ValueOutcome : Context → TypeEncoding FaultKind → List ℕ → Writer → List ℕ → Writer → Option FoundIdentifier → Type 0
ValueOutcome c A was old now new (Some found) = IsFilled c (BeginFilled A.encoding.encodes (Some found)) was old now new
ValueOutcome c A was old now new None = IsStopped c A.misfit old new

-- the same of a length and contents
abbrev pub BodyOutcome : Context → TypeContents FaultKind → Writer → List ℕ → Writer → Option ℕ → Type 0
BodyOutcome c F old now new (Some size) = IsBody c F old now new size
BodyOutcome c F old now new None = IsStopped c F.misfit old new

abbrev pub ContentsOutcome : Context → TypeContents FaultKind → List ℕ → Writer → List ℕ → Writer → Bool → Type 0
ContentsOutcome c F was old now new r = Outcome c F.contents.fills F.misfit was old now new r

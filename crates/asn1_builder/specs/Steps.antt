-- What the calls of a builder do.
use Rattle.std.specs.Prelude.{◌≡◌, ◌≢◌, ℕ, ◌+◌, ◌-◌, ◌*◌, ◌^◌, ◌<◌, ◌≤◌, ◌⊎◌, ⊤, if◌then◌else◌, nat_lt, nat_le, Bool, true, false, List, [], ◌∷◌, ◌++◌, length, replicate, Option, Some, None, Result, Ok, Err, MatchResult, slice_get, slice_set, take}
use Rattle.std.specs.Int.{to_be_bytes, w32}
use Rattle.std.specs.Str.{chars}
use Rattle.asn1_schema.specs.declared.part.Codes.TheVariants.{Numbers}
use Rattle.asn1_schema.specs.declared.part.Part.{Part}
use Rattle.asn1_schema.specs.declared.part.Part.TheVariants as part
use Rattle.asn1_schema.specs.declared.part.Span.{Span}
use Rattle.asn1_schema.specs.declared.tables.Member.{Member}
use Rattle.asn1_schema.specs.declared.tables.Node.{Node}
use Rattle.asn1_schema.specs.declared.tables.Node.TheVariants as type
use Rattle.asn1_schema.specs.declared.tables.Presence.TheVariants.{Mandatory}
use Rattle.asn1_schema.specs.declared.tables.Rows.{Rows}
use Rattle.asn1_schema_values.specs.declared.names.Names.{Names}
use Rattle.asn1_schema_values.specs.Extents.{HasValues}
use Rattle.asn1_schema_values.specs.Names.{IsFirstNamed, IsNotNamed}
use Rattle.asn1_builder.specs.declared.error.BuildError.{BuildError}
use Rattle.asn1_builder.specs.declared.error.BuildError.TheVariants as error
use Rattle.asn1_builder.specs.declared.frame.Components.{Components}
use Rattle.asn1_builder.specs.declared.frame.Frame.{Frame}
use Rattle.asn1_builder.specs.declared.frame.Frame.TheVariants as frame
use Rattle.asn1_builder.specs.declared.kind.Kind.{Kind}
use Rattle.asn1_builder.specs.declared.kind.Kind.TheVariants as kind
use Rattle.asn1_builder.specs.Drafts.{Draft, awaited, expected_type, innermost}
use Rattle.asn1_builder.specs.Kinds.{is_of_kind}

-- A call with an error changes nothing; memory may run out where there is no other error. Otherwise the draft is the one that is
-- told.
abbrev pub IsStep : Result Draft BuildError → Result Unit BuildError → Draft → Draft → Type 0
IsStep (Err e) r old new = (r ≡ Err e) × (new ≡ old)
IsStep (Ok done) r old new = MatchResult r (λ _. new ≡ done) (λ e. (e ≡ error.Memory) × (new ≡ old))

abbrev pub with_parts : Draft → List Part → Draft
with_parts d parts = record d { parts = parts }

abbrev pub with_frames : Draft → List Frame → Draft
with_frames d frames = record d { frames = frames }

-- ---- values of one part

-- a value of one part follows, which has its bits in more octets
abbrev pub put : Draft → Part → List ℕ → Draft
put d p more = record d { parts = d.parts ++ p ∷ []; octets = d.octets ++ more; next = awaited (innermost d.frames) }

abbrev pub if_of_kind : Bool → Draft → Result Draft BuildError
if_of_kind true done = Ok done
if_of_kind false done = Err error.OtherType

abbrev pub if_expected : Bool → Result Unit BuildError
if_expected true = Ok tt
if_expected false = Err error.OtherType

abbrev pub expected_of : Kind → Result Node BuildError → Result Unit BuildError
expected_of k (Err e) = Err e
expected_of k (Ok n) = if_expected (is_of_kind k n)

abbrev pub by_type : Kind → Result Node BuildError → Draft → Result Draft BuildError
by_type k (Err e) done = Err e
by_type k (Ok n) done = if_of_kind (is_of_kind k n) done

-- a value of one part, of a type of this kind
abbrev pub leaf : Kind → Part → Draft → Result Draft BuildError
leaf k p d = by_type k (expected_type d) (put d p [])

abbrev pub if_few : Bool → Result Draft BuildError → Result Draft BuildError
if_few true (Ok done) = Ok done
if_few true (Err e) = Err e
if_few false (Ok done) = Err error.TooLong
if_few false (Err e) = Err e

-- there is room for `more` octets
abbrev pub are_few : Draft → ℕ → Bool
are_few d more = nat_lt (length d.octets + more) (2 ^ 61)

-- the bits after those that the octets have
abbrev pub span_after : Draft → ℕ → Span
span_after d bits = record { at = 8 * length d.octets; count = bits }

-- the part of a value in octets of its own
abbrev pub string_part : Kind → Span → Part
string_part kind.Unbounded s = part.Signed s
string_part kind.Bits s = part.Bits s
string_part _ s = part.Octets s

-- a value of `bits` bits, in octets of its own
abbrev pub string : Kind → ℕ → List ℕ → Draft → Result Draft BuildError
string k bits octets d =
    if_few (are_few d (length octets)) (by_type k (expected_type d) (put d (string_part k (span_after d bits)) octets))

-- a value of whole octets
abbrev pub octet_string : Kind → List ℕ → Draft → Result Draft BuildError
octet_string k octets d = string k (8 * length octets) octets d

abbrev pub if_enough : Bool → Result Draft BuildError → Result Draft BuildError
if_enough true r = r
if_enough false r = Err error.TooShort

-- the first `count` bits of octets
abbrev pub bit_string : ℕ → List ℕ → Draft → Result Draft BuildError
bit_string count octets d = if_enough (nat_le count (8 * length octets)) (string kind.Bits count octets d)

-- ---- strings of characters

-- the number of each character, in four octets
abbrev pub octets_of : List ℕ → List ℕ
octets_of [] = []
octets_of (c ∷ characters) = to_be_bytes w32 c ++ octets_of characters

abbrev pub text_part : ℕ → ℕ → Part
text_part at count = part.Text (record { at = at; count = count; width = 32; codes = Numbers })

-- a string of characters, or a time
abbrev pub text : Kind → List ℕ → Draft → Result Draft BuildError
text k characters d =
    if_few (are_few d (4 * length characters))
    (by_type k (expected_type d) (put d (text_part (8 * length d.octets) (length characters)) (octets_of characters)))

abbrev pub text_as : Result Node BuildError → List ℕ → Draft → Result Draft BuildError
text_as (Err e) t d = Err e
text_as (Ok type.Utf8String) t d = octet_string kind.Utf8 t d
text_as (Ok n) t d = text kind.Text (chars t) d

-- a UTF8String, which is in its own octets, or a string of characters
abbrev pub any_text : List ℕ → Draft → Result Draft BuildError
any_text t d = text_as (expected_type d) t d

-- ---- a SEQUENCE, a SET or a list is begun

abbrev pub begin_with : Draft → Part → Frame → Draft
begin_with d p f = record d { parts = d.parts ++ p ∷ []; frames = d.frames ++ f ∷ []; next = awaited (Some f) }

abbrev pub components_at : ℕ → Rows → Rows → Components
components_at at root additions = record { at = at; root = root; additions = additions; is_extended = false; passed = 0 }

abbrev pub begun_as : Result Node BuildError → Draft → Result Draft BuildError
begun_as (Err e) d = Err e
begun_as (Ok (type.Sequence root is_extensible additions)) d =
    Ok (begin_with d (part.Sequence root.count false) (frame.Components (components_at (length d.parts) root additions)))
begun_as (Ok (type.SequenceOf size is_extensible item)) d = Ok (begin_with d (part.Count 0) (frame.Items (length d.parts) item))
begun_as (Ok (type.SetOf size is_extensible item)) d = Ok (begin_with d (part.Count 0) (frame.Items (length d.parts) item))
begun_as _ d = Err error.OtherType

abbrev pub begun : Draft → Result Draft BuildError
begun d = begun_as (expected_type d) d

-- ---- a component is named

-- the member of this name is the one of an index in the root, or otherwise among the additions
abbrev pub IsPlace : Names → Rows → Rows → List ℕ → Bool → ℕ → Type 0
IsPlace names root additions name false index = IsFirstNamed names root name (root.from + index)
IsPlace names root additions name true index = IsNotNamed names root name × IsFirstNamed names additions name (additions.from + index)

abbrev pub rows_by : Bool → Rows → Rows → Rows
rows_by false root additions = root
rows_by true root additions = additions

-- the member is in neither
abbrev pub IsNoPlace : Names → Rows → Rows → List ℕ → Type 0
IsNoPlace names root additions name = IsNotNamed names root name × IsNotNamed names additions name

-- the member of an index of rows
abbrev pub member_of : Draft → Rows → ℕ → Option Member
member_of d rows index = slice_get d.tables.members.now (rows.from + index)

-- a component of this index was named before, or comes before one that was
abbrev pub is_passed : Bool → Bool → ℕ → ℕ → Bool
is_passed true false passed index = true
is_passed false true passed index = false
is_passed _ _ passed index = nat_lt index passed

-- the components of the root from an index to another may be absent: each is OPTIONAL or has a DEFAULT
abbrev pub MayBeAbsent : Draft → Rows → ℕ → ℕ → Type 0
MayBeAbsent d root from to = (k : ℕ) → from ≤ k → k < to
    → (m : Member) × (member_of d root k ≡ Some m) × (m.presence ≢ Mandatory)

-- the first component of the root that is not skipped
abbrev pub root_end : Components → Bool → ℕ → ℕ
root_end of false index = index
root_end of true index = of.root.count

-- an addition may be absent
abbrev pub RootMayBeAbsent : Draft → Components → Bool → ℕ → Type 0
RootMayBeAbsent d of is_addition index = of.is_extended ≡ false → MayBeAbsent d of.root of.passed (root_end of is_addition index)

-- the parts of `count` components that are absent
abbrev pub absent : ℕ → List Part
absent count = replicate count part.Absent

-- the parts of what is skipped: the components before the one that is named; and with the first addition how many there are
abbrev pub passed_over : Bool → Bool → Components → ℕ → List Part
passed_over false true of index = absent (of.root.count - of.passed) ++ part.Additions of.additions.count ∷ absent index
passed_over _ _ of index = absent (index - of.passed)

-- with an addition, the part of the SEQUENCE says that additions follow
abbrev pub with_marker : Bool → Components → List Part → List Part
with_marker false of parts = parts
with_marker true of parts = slice_set parts of.at (part.Sequence of.root.count true)

abbrev pub with_innermost : List Frame → Frame → List Frame
with_innermost frames f = slice_set frames (length frames - 1) f

abbrev pub named : Draft → Components → Bool → ℕ → ℕ → Draft
named d of is_addition index node = record d {
  parts = with_marker is_addition of (d.parts ++ passed_over of.is_extended is_addition of index);
  frames = with_innermost d.frames (frame.Components (record of { is_extended = is_addition; passed = index + 1 }));
  next = Some node;
}

-- the component of an index is reached: those that are skipped may be absent, and its value comes next
pub record Reaches (d : Draft) (of : Components) (is_addition : Bool) (index : ℕ) (new : Draft) : Type 0 where
  pub comes : is_passed of.is_extended is_addition of.passed index ≡ false
  pub others : RootMayBeAbsent d of is_addition index
  pub member : Member
  pub member_is : member_of d (rows_by is_addition of.root of.additions) index ≡ Some member
  pub new_is : new ≡ named d of is_addition index member.node

-- why it is not reached
abbrev pub ReachesNone : Draft → Components → Bool → ℕ → BuildError → Type 0
ReachesNone d of is_addition index error.Passed = is_passed of.is_extended is_addition of.passed index ≡ true
ReachesNone d of is_addition index error.Mandatory = RootMayBeAbsent d of is_addition index → ⊥
ReachesNone d of is_addition index error.NoNode = member_of d (rows_by is_addition of.root of.additions) index ≡ None
ReachesNone d of is_addition index error.Memory = ⊤
ReachesNone d of is_addition index _ = ⊥

-- the innermost value is a SEQUENCE or a SET, in which no value is awaited; or why it is not
abbrev pub IsInside : Draft → Components → Type 0
IsInside d of = (innermost d.frames ≡ Some (frame.Components of)) × (d.next ≡ None)

abbrev pub IsInsideNone : Draft → BuildError → Type 0
IsInsideNone d error.NoSequence = (of : Components) → innermost d.frames ≡ Some (frame.Components of) → ⊥
IsInsideNone d error.Unfinished = d.next ≢ None
IsInsideNone d _ = ⊥

-- a component of the innermost SEQUENCE or SET is told, and reached
pub record TellsComponent (d : Draft) (At : Components → Bool → ℕ → Type 0) (new : Draft) : Type 0 where
  pub of : Components
  pub inside : IsInside d of
  pub is_addition : Bool
  pub index : ℕ
  pub at : At of is_addition index
  pub reaches : Reaches d of is_addition index new

pub record ReachesNoneAt (d : Draft) (At : Components → Bool → ℕ → Type 0) (e : BuildError) : Type 0 where
  pub of : Components
  pub innermost_is : innermost d.frames ≡ Some (frame.Components of)
  pub is_addition : Bool
  pub index : ℕ
  pub at : At of is_addition index
  pub none : ReachesNone d of is_addition index e

-- why none is told, or reached
abbrev pub TellsNone : Draft → (Components → Bool → ℕ → Type 0) → (Components → Type 0) → BuildError → Type 0
TellsNone d At Lacks error.NoSequence = IsInsideNone d error.NoSequence
TellsNone d At Lacks error.Unfinished = IsInsideNone d error.Unfinished
TellsNone d At Lacks error.NoComponent = (of : Components) × (innermost d.frames ≡ Some (frame.Components of)) × Lacks of
TellsNone d At Lacks e = ReachesNoneAt d At e

-- a component is told by its name
abbrev pub IsNamed : Draft → List ℕ → Components → Bool → ℕ → Type 0
IsNamed d name of is_addition index = IsPlace d.names of.root of.additions name is_addition index

abbrev pub NamesComponent : Draft → List ℕ → Draft → Type 0
NamesComponent d name new = TellsComponent d (IsNamed d name) new

abbrev pub NamesNoComponent : Draft → List ℕ → BuildError → Type 0
NamesNoComponent d name e = TellsNone d (IsNamed d name) (λ of. IsNoPlace d.names of.root of.additions name) e

-- a component is told by its index: those of the root, and then the additions
abbrev pub IsIndexed : ℕ → Components → Bool → ℕ → Type 0
IsIndexed position of false index = (position ≡ index) × (index < of.root.count)
IsIndexed position of true index = (position ≡ of.root.count + index) × (index < of.additions.count)

abbrev pub IndexesComponent : Draft → ℕ → Draft → Type 0
IndexesComponent d position new = TellsComponent d (IsIndexed position) new

abbrev pub IndexesNoComponent : Draft → ℕ → BuildError → Type 0
IndexesNoComponent d position e = TellsNone d (IsIndexed position) (λ of. of.root.count + of.additions.count ≤ position) e

-- ---- an alternative is chosen

-- the index of an alternative: those of the root, and then the additions
abbrev pub alternative_index : Rows → Bool → ℕ → ℕ
alternative_index root false index = index
alternative_index root true index = root.count + index

abbrev pub chosen : Draft → ℕ → ℕ → Draft
chosen d index node = record d { parts = d.parts ++ part.Chosen index ∷ []; next = Some node }

pub record Chooses (d : Draft) (name : List ℕ) (new : Draft) : Type 0 where
  pub root : Rows
  pub additions : Rows
  pub is_extensible : Bool
  pub type_is : expected_type d ≡ Ok (type.Choice root is_extensible additions)
  pub is_addition : Bool
  pub index : ℕ
  pub place : IsPlace d.names root additions name is_addition index
  pub member : Member
  pub member_is : member_of d (rows_by is_addition root additions) index ≡ Some member
  pub new_is : new ≡ chosen d (alternative_index root is_addition index) member.node

-- why no alternative of this name is chosen
abbrev pub IsOtherType : Draft → Type 0
IsOtherType d = (root additions : Rows) (is_extensible : Bool) → expected_type d ≡ Ok (type.Choice root is_extensible additions) → ⊥

pub record HasNoAlternative (d : Draft) (name : List ℕ) (P : Rows → Rows → Type 0) : Type 0 where
  pub root : Rows
  pub additions : Rows
  pub is_extensible : Bool
  pub type_is : expected_type d ≡ Ok (type.Choice root is_extensible additions)
  pub lacks : P root additions

-- the member with this name has no row
abbrev pub HasNoMember : Draft → List ℕ → Rows → Rows → Type 0
HasNoMember d name root additions = (is_addition : Bool) × (index : ℕ) × IsPlace d.names root additions name is_addition index
    × (member_of d (rows_by is_addition root additions) index ≡ None)

-- the error of a name of no alternative
abbrev pub ChoosesNone : Draft → List ℕ → BuildError → Type 0
ChoosesNone d name error.NoComponent = HasNoAlternative d name (λ root additions. IsNoPlace d.names root additions name)
ChoosesNone d name error.NoNode = (expected_type d ≡ Err error.NoNode) ⊎ HasNoAlternative d name (HasNoMember d name)
ChoosesNone d name error.NoValue = expected_type d ≡ Err error.NoValue
ChoosesNone d name error.OtherType = IsOtherType d
ChoosesNone d name error.Memory = ⊤
ChoosesNone d name _ = ⊥

-- ---- a value is ended

abbrev pub phase_count : Components → ℕ
phase_count of = if of.is_extended then of.additions.count else of.root.count

abbrev pub enclosing : List Frame → List Frame
enclosing frames = take (length frames - 1) frames

abbrev pub ended : Draft → List Part → Draft
ended d parts = record d { parts = parts; frames = enclosing d.frames; next = awaited (innermost (enclosing d.frames)) }

-- the innermost SEQUENCE or SET is ended: what was not named is absent
pub record EndsComponents (d : Draft) (of : Components) (new : Draft) : Type 0 where
  pub innermost_is : innermost d.frames ≡ Some (frame.Components of)
  pub complete : d.next ≡ None
  pub others : of.is_extended ≡ false → MayBeAbsent d of.root of.passed of.root.count
  pub new_is : new ≡ ended d (d.parts ++ absent (phase_count of - of.passed))

-- the innermost list is ended: its part tells how many values follow it
pub record EndsItems (d : Draft) (at item : ℕ) (new : Draft) : Type 0 where
  pub innermost_is : innermost d.frames ≡ Some (frame.Items at item)
  pub count : ℕ
  pub items : HasValues d.parts (at + 1) count (length d.parts)
  pub new_is : new ≡ ended d (slice_set d.parts at (part.Count count))

abbrev pub Ends : Draft → Draft → Type 0
Ends d new = ((of : Components) × EndsComponents d of new) ⊎ ((at item : ℕ) × EndsItems d at item new)

-- why no value is ended
abbrev pub EndsNone : Draft → BuildError → Type 0
EndsNone d error.NotBegun = d.frames ≡ []
EndsNone d error.Unfinished = ((of : Components) × (innermost d.frames ≡ Some (frame.Components of)) × (d.next ≢ None))
    ⊎ ((at item : ℕ) × (innermost d.frames ≡ Some (frame.Items at item))
    × ((count : ℕ) → HasValues d.parts (at + 1) count (length d.parts) → ⊥))
EndsNone d error.Mandatory = (of : Components) × (innermost d.frames ≡ Some (frame.Components of)) × (of.is_extended ≡ false)
    × (MayBeAbsent d of.root of.passed of.root.count → ⊥)
EndsNone d error.Memory = ⊤
EndsNone d _ = ⊥

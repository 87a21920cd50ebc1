-- Well-formed tables: each index leads to a row, and each type has what X.680 asks of it.
use Rattle.std.specs.Prelude.{◌≡◌, ℕ, ◌+◌, ◌<◌, ◌≤◌, ◌⊎◌, ⊤, Bool, true, false, List, [], ◌∷◌, length, Option, Some, None, IfSome, slice_get, slice_range}
use Rattle.asn1_schema.specs.declared.tables.Length.{Length}
use Rattle.asn1_schema.specs.declared.tables.Length.TheVariants.{AtLeast, Between}
use Rattle.asn1_schema.specs.declared.tables.Member.{Member}
use Rattle.asn1_schema.specs.declared.tables.Node.{Node}
use Rattle.asn1_schema.specs.declared.tables.Node.TheVariants as type
use Rattle.asn1_schema.specs.declared.tables.Range.{Range}
use Rattle.asn1_schema.specs.declared.tables.Rows.{Rows}
use Rattle.asn1_schema.specs.declared.tables.Tables.{Tables}
use Rattle.asn1_schema_values.specs.declared.faults.NodeFault.{NodeFault}
use Rattle.asn1_schema_values.specs.declared.faults.NodeFault.TheVariants as fault
use Rattle.asn1_schema_values.specs.declared.faults.TableFault.{TableFault}
use Rattle.asn1_schema_values.specs.declared.faults.TableFault.TheVariants as table

-- ---- what a type has

-- the type of the items of a list, or of the value of an open type
abbrev pub inner_type : Node → Option ℕ
inner_type (type.SequenceOf size is_extensible item) = Some item
inner_type (type.SetOf size is_extensible item) = Some item
inner_type (type.Open inner) = Some inner
inner_type _ = None

-- the components of the root of a SEQUENCE or a SET
abbrev pub component_rows : Node → Option Rows
component_rows (type.Sequence root is_extensible additions) = Some root
component_rows _ = None

-- the alternatives of the root of a CHOICE
abbrev pub alternative_rows : Node → Option Rows
alternative_rows (type.Choice alternatives is_extensible additions) = Some alternatives
alternative_rows _ = None

-- the extension additions of a SEQUENCE, a SET or a CHOICE
abbrev pub addition_rows : Node → Option Rows
addition_rows (type.Sequence root is_extensible additions) = Some additions
addition_rows (type.Choice alternatives is_extensible additions) = Some additions
addition_rows _ = None

-- additions follow an extension marker (X.680 20.1, 25.1, 29.1)
abbrev pub FollowMarker : Bool → ℕ → Type 0
FollowMarker true additions = ⊤
FollowMarker false additions = additions ≡ 0

abbrev pub AdditionsFollowMarker : Node → Type 0
AdditionsFollowMarker (type.Enumerated last is_extensible additions) = FollowMarker is_extensible additions
AdditionsFollowMarker (type.Sequence root is_extensible additions) = FollowMarker is_extensible additions.count
AdditionsFollowMarker (type.Choice alternatives is_extensible additions) = FollowMarker is_extensible additions.count
AdditionsFollowMarker _ = ⊤

-- the effective size constraint of a string or a list (X.680 51.5)
abbrev pub size_of : Node → Option Length
size_of (type.BitString size is_extensible has_names) = Some size
size_of (type.OctetString size is_extensible) = Some size
size_of (type.Text size is_extensible alphabet whole) = Some size
size_of (type.SequenceOf size is_extensible item) = Some size
size_of (type.SetOf size is_extensible item) = Some size
size_of _ = None

-- an upper bound of a size is below 65,536: one from there on has no effect (X.691 11.9.4.1)
abbrev pub IsBelowLimit : Length → Type 0
IsBelowLimit (AtLeast least) = ⊤
IsBelowLimit (Between least range) = least + range < 65536

-- the alphabet of a string, and that of its type
abbrev pub alphabets_of : Node → Option (Rows × Rows)
alphabets_of (type.Text size is_extensible alphabet whole) = Some (alphabet, whole)
alphabets_of _ = None

-- ---- ranges of characters

abbrev pub ranges_of : List Range → Rows → List Range
ranges_of table rows = slice_range table rows.from (rows.from + rows.count)

-- the ranges have a character
abbrev pub HasCharacter : List Range → ℕ → Type 0
HasCharacter [] c = ⊥
HasCharacter (r ∷ ranges) c = ((r.first ≤ c) × (c ≤ r.last)) ⊎ HasCharacter ranges c

-- the characters of each range begin at this number or after it, and after those of the range before it; each range has some
abbrev pub IsAscending : ℕ → List Range → Type 0
IsAscending from [] = ⊤
IsAscending from (r ∷ ranges) = (from ≤ r.first) × (r.first ≤ r.last) × IsAscending (r.last + 1) ranges

-- each character of some ranges is one of others
abbrev pub IsWithin : List Range → List Range → Type 0
IsWithin ranges whole = (c : ℕ) → HasCharacter ranges c → HasCharacter whole c

-- ---- well-formed tables

abbrev pub AreRows : Rows → ℕ → Type 0
AreRows rows count = rows.from + rows.count ≤ count

-- what the alphabet of a string and that of its type keep that have no such fault
abbrev pub AlphabetsKeep : NodeFault → List Range → Rows → Rows → Type 0
AlphabetsKeep fault.Alphabet table alphabet whole = AreRows alphabet (length table) × AreRows whole (length table)
AlphabetsKeep fault.NoRange table alphabet whole = (0 < alphabet.count) × (0 < whole.count)
AlphabetsKeep fault.NotAscending table alphabet whole = IsAscending 0 (ranges_of table alphabet) × IsAscending 0 (ranges_of table whole)
-- a permitted alphabet has characters of the parent type (X.680 51.7)
AlphabetsKeep fault.NotWithin table alphabet whole = IsWithin (ranges_of table alphabet) (ranges_of table whole)
AlphabetsKeep _ table alphabet whole = ⊤

-- what a type keeps that has no such fault
abbrev pub Keeps : NodeFault → Tables → Node → Type 0
Keeps fault.NoType t n = IfSome (inner_type n) (λ inner. inner < length t.nodes.now)
Keeps fault.Components t n = IfSome (component_rows n) (λ rows. AreRows rows (length t.members.now))
Keeps fault.Alternatives t n = IfSome (alternative_rows n) (λ rows. AreRows rows (length t.members.now))
Keeps fault.Additions t n = IfSome (addition_rows n) (λ rows. AreRows rows (length t.members.now))
-- a CHOICE has an alternative in its root (X.680 29.1)
Keeps fault.NoAlternative t n = IfSome (alternative_rows n) (λ rows. 0 < rows.count)
Keeps fault.NotExtensible t n = AdditionsFollowMarker n
Keeps fault.Size t n = IfSome (size_of n) IsBelowLimit
Keeps fault.Alphabet t n = IfSome (alphabets_of n) (λ a. AlphabetsKeep fault.Alphabet t.ranges.now a.0 a.1)
Keeps fault.NoRange t n = IfSome (alphabets_of n) (λ a. AlphabetsKeep fault.NoRange t.ranges.now a.0 a.1)
Keeps fault.NotAscending t n = IfSome (alphabets_of n) (λ a. AlphabetsKeep fault.NotAscending t.ranges.now a.0 a.1)
Keeps fault.NotWithin t n = IfSome (alphabets_of n) (λ a. AlphabetsKeep fault.NotWithin t.ranges.now a.0 a.1)

-- a type has no fault, other than one of its alphabets
pub record KeepsIndexes (t : Tables) (n : Node) : Type 0 where
  pub type_is : Keeps fault.NoType t n
  pub components : Keeps fault.Components t n
  pub alternatives : Keeps fault.Alternatives t n
  pub additions : Keeps fault.Additions t n
  pub some : Keeps fault.NoAlternative t n
  pub marker : Keeps fault.NotExtensible t n
  pub size : Keeps fault.Size t n

-- a type has no fault
abbrev pub IsWellFormed : Tables → Node → Type 0
IsWellFormed t n = (f : NodeFault) → Keeps f t n

-- the types before a row are well formed
abbrev pub AreWellFormedBefore : Tables → ℕ → Type 0
AreWellFormedBefore t row = (k : ℕ) (n : Node) → k < row → slice_get t.nodes.now k ≡ Some n → IsWellFormed t n

-- the components and alternatives before a row have a type of the tables
abbrev pub HaveTypesBefore : Tables → ℕ → Type 0
HaveTypesBefore t row = (k : ℕ) (m : Member) → k < row → slice_get t.members.now k ≡ Some m → m.node < length t.nodes.now

pub record AreWellFormed (t : Tables) : Type 0 where
  pub types : AreWellFormedBefore t (length t.nodes.now)
  pub members : HaveTypesBefore t (length t.members.now)

-- the type in a row has a fault, and those before it have none
pub record IsFirstType (t : Tables) (row : ℕ) (f : NodeFault) : Type 0 where
  pub node : Node
  pub node_is : slice_get t.nodes.now row ≡ Some node
  pub broken : ¬ (Keeps f t node)
  pub before : AreWellFormedBefore t row

-- the member in a row has no type of the tables, but those before it have, and the types have no fault
pub record IsFirstMember (t : Tables) (row : ℕ) : Type 0 where
  pub member : Member
  pub member_is : slice_get t.members.now row ≡ Some member
  pub broken : length t.nodes.now ≤ member.node
  pub types : AreWellFormedBefore t (length t.nodes.now)
  pub before : HaveTypesBefore t row

abbrev pub IsFirstFault : Tables → TableFault → Type 0
IsFirstFault t (table.Type row f) = IsFirstType t row f
IsFirstFault t (table.Member row) = IsFirstMember t row

-- ---- what well-formed tables have

-- a component or an alternative of a type, in its root or among its additions, is in this row
abbrev pub NamesRow : Node → ℕ → Type 0
NamesRow n row = (rows : Rows) × ((component_rows n ≡ Some rows) ⊎ (alternative_rows n ≡ Some rows) ⊎ (addition_rows n ≡ Some rows))
    × (rows.from ≤ row) × (row < rows.from + rows.count)

-- each row and each type that a type of the tables names is in the tables
pub record IsClosed (t : Tables) : Type 0 where
  pub inner : (k inner : ℕ) (n : Node) → slice_get t.nodes.now k ≡ Some n → inner_type n ≡ Some inner → inner < length t.nodes.now
  pub rows : (k row : ℕ) (n : Node) → slice_get t.nodes.now k ≡ Some n → NamesRow n row → row < length t.members.now
  pub types : (row : ℕ) (m : Member) → slice_get t.members.now row ≡ Some m → m.node < length t.nodes.now

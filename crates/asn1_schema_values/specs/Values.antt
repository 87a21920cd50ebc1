-- Views of the values of a message: which value a call returns, by its part and by the tables.
use Rattle.std.specs.Prelude.{◌≡◌, ℕ, ◌+◌, ◌-◌, ◌<◌, ◌⊎◌, Bool, true, false, nat_lt, List, Option, Some, None, slice_get}
use Rattle.asn1_schema.specs.declared.part.Part.{Part}
use Rattle.asn1_schema.specs.declared.part.Part.TheVariants as part
use Rattle.asn1_schema.specs.declared.tables.Rows.{Rows}
use Rattle.asn1_schema.specs.declared.tables.Member.{Member}
use Rattle.asn1_schema.specs.declared.tables.Node.{Node}
use Rattle.asn1_schema.specs.declared.tables.Node.TheVariants as type
use Rattle.asn1_schema_values.specs.declared.value.Message.{Message}
use Rattle.asn1_schema_values.specs.declared.value.Value.{Value}
use Rattle.asn1_schema_values.specs.Extents.{HasValues}
use Rattle.asn1_schema_values.specs.Names.{IsFirstNamed, member_name}

-- the first part of a value, and its type
abbrev pub part_of : Value → Option Part
part_of v = slice_get v.message.now.parts.now v.at

abbrev pub node_of : Value → Option Node
node_of v = slice_get v.message.now.tables.nodes.now v.node

-- the value is of this message and of this type, and begins at this part
pub record IsAt (m : Message) (node at : ℕ) (v : Value) : Type 0 where
  pub message_is : v.message.now ≡ m
  pub node_is : v.node ≡ node
  pub at_is : v.at ≡ at

-- ---- SEQUENCE

-- the member of a row has a value, which begins at this part
pub record IsPresent (m : Message) (row at : ℕ) (v : Value) : Type 0 where
  pub member : Member
  pub row_is : slice_get m.tables.members.now row ≡ Some member
  pub first : Part
  pub part_is : slice_get m.parts.now at ≡ Some first
  pub present : first ≡ part.Absent → ⊥
  pub is : IsAt m member.node at v

-- the value of the first member of the rows that has the name, where those of `count` members begin at this part
pub record IsMember (m : Message) (rows : Rows) (from count : ℕ) (name : List ℕ) (v : Value) : Type 0 where
  pub row : ℕ
  pub named : IsFirstNamed m.names rows name row
  pub below : row - rows.from < count
  pub begins : HasValues m.parts.now from (row - rows.from) v.at
  pub is_present : IsPresent m row v.at v

-- a SEQUENCE of these components, of which the part says how many of the root follow, and whether additions do
pub record IsSequence (v : Value) (root additions : Rows) (count : ℕ) (is_extended : Bool) : Type 0 where
  pub is_extensible : Bool
  pub node_is : node_of v ≡ Some (type.Sequence root is_extensible additions)
  pub part_is : part_of v ≡ Some (part.Sequence count is_extended)

-- a component of the root
pub record IsOfRoot (v : Value) (name : List ℕ) (c : Value) : Type 0 where
  pub root : Rows
  pub additions : Rows
  pub count : ℕ
  pub is_extended : Bool
  pub sequence : IsSequence v root additions count is_extended
  pub member : IsMember v.message.now root (v.at + 1) count name c

-- an addition: the part of the additions follows the components of the root
pub record IsAddition (v : Value) (name : List ℕ) (c : Value) : Type 0 where
  pub root : Rows
  pub additions : Rows
  pub count : ℕ
  pub sequence : IsSequence v root additions count true
  pub place : ℕ
  pub ends : HasValues v.message.now.parts.now (v.at + 1) count place
  pub added : ℕ
  pub place_is : slice_get v.message.now.parts.now place ≡ Some (part.Additions added)
  pub member : IsMember v.message.now additions (place + 1) added name c

abbrev pub IsComponent : Value → List ℕ → Value → Type 0
IsComponent v name c = IsOfRoot v name c ⊎ IsAddition v name c

-- ---- SEQUENCE OF and SET OF

abbrev pub item_node : Option Node → Option ℕ
item_node (Some (type.SequenceOf size is_extensible item)) = Some item
item_node (Some (type.SetOf size is_extensible item)) = Some item
item_node _ = None

abbrev pub count_in : Option Part → Option ℕ
count_in (Some (part.Count count)) = Some count
count_in _ = None

pub record IsItem (v : Value) (index : ℕ) (c : Value) : Type 0 where
  pub count : ℕ
  pub count_is : count_in (part_of v) ≡ Some count
  pub below : index < count
  pub item : ℕ
  pub item_is : item_node (node_of v) ≡ Some item
  pub begins : HasValues v.message.now.parts.now (v.at + 1) index c.at
  pub is : IsAt v.message.now item c.at c

-- a value of the same type, which follows another
pub record IsNext (v c : Value) : Type 0 where
  pub begins : HasValues v.message.now.parts.now v.at 1 c.at
  pub is : IsAt v.message.now v.node c.at c

-- ---- CHOICE

abbrev pub row_if : Bool → ℕ → ℕ → Option ℕ
row_if false from i = None
row_if true from i = Some (from + i)

abbrev pub row_of : Bool → Rows → Rows → ℕ → Option ℕ
row_of true alternatives additions i = Some (alternatives.from + i)
row_of false alternatives additions i = row_if (nat_lt (i - alternatives.count) additions.count) additions.from (i - alternatives.count)

-- the row of an alternative: those of the root, and then the additions
abbrev pub alternative_row : Option Node → ℕ → Option ℕ
alternative_row (Some (type.Choice alternatives is_extensible additions)) i =
    row_of (nat_lt i alternatives.count) alternatives additions i
alternative_row _ i = None

abbrev pub chosen_in : Option Part → Option ℕ
chosen_in (Some (part.Chosen i)) = Some i
chosen_in _ = None

pub record IsChosen (v : Value) (name : List ℕ) (c : Value) : Type 0 where
  pub index : ℕ
  pub index_is : chosen_in (part_of v) ≡ Some index
  pub row : ℕ
  pub row_is : alternative_row (node_of v) index ≡ Some row
  pub named : member_name v.message.now.names row ≡ Some name
  pub member : Member
  pub member_is : slice_get v.message.now.tables.members.now row ≡ Some member
  pub is : IsAt v.message.now member.node (v.at + 1) c

-- The names of types and of members: octets of a text.
use Rattle.std.specs.Prelude.{◌≡◌, ℕ, ◌+◌, ◌<◌, ◌≤◌, Bool, true, false, nat_le, List, length, Option, Some, None, slice_get, slice_range}
use Rattle.asn1_schema.specs.declared.tables.Rows.{Rows}
use Rattle.asn1_schema_values.specs.declared.names.NameSpan.{NameSpan}
use Rattle.asn1_schema_values.specs.declared.names.Names.{Names}

abbrev pub name_if : Bool → List ℕ → NameSpan → Option (List ℕ)
name_if false text s = None
name_if true text s = Some (slice_range text s.from (s.from + s.count))

-- `count` octets of a text from an index on; none where the text has fewer
abbrev pub name_of : List ℕ → Option NameSpan → Option (List ℕ)
name_of text None = None
name_of text (Some s) = name_if (nat_le (s.from + s.count) (length text)) text s

abbrev pub node_name : Names → ℕ → Option (List ℕ)
node_name names node = name_of names.text.now (slice_get names.nodes.now node)

abbrev pub member_name : Names → ℕ → Option (List ℕ)
member_name names member = name_of names.text.now (slice_get names.members.now member)

-- the member at the index has the name, and those of the rows before it have another one
pub record IsFirstNamed (names : Names) (rows : Rows) (name : List ℕ) (index : ℕ) : Type 0 where
  pub from : rows.from ≤ index
  pub within : index < rows.from + rows.count
  pub named : member_name names index ≡ Some name
  pub first : (k : ℕ) → rows.from ≤ k → k < index → member_name names k ≡ Some name → ⊥

-- no member of the rows has the name
abbrev pub IsNotNamed : Names → Rows → List ℕ → Type 0
IsNotNamed names rows name = (k : ℕ) → rows.from ≤ k → k < rows.from + rows.count → member_name names k ≡ Some name → ⊥

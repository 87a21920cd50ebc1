-- Which types have tags around a value that has its own header, and which components must be present.
use Rattle.std.specs.Prelude.{ℕ, ◌+◌, ◌*◌, ◌^◌, Bool, true, false}
use Rattle.asn1_schema.specs.declared.tables.Presence.{Presence}
use Rattle.asn1_schema.specs.declared.tables.Presence.TheVariants.{Mandatory}
use Rattle.asn1_schema.specs.declared.tables.Node.{Node}
use Rattle.asn1_schema.specs.declared.tables.Node.TheVariants as type
use Rattle.asn1_x690.specs.declared.tables.Tag.{Tag}
use Rattle.asn1_x690.specs.declared.tables.Identifier.{Identifier}
use Rattle.asn1_x690.specs.Der.{primitive, constructed}
use Rattle.asn1_x690_encode.specs.declared.sequence.Tail.{Tail}
use Rattle.asn1_x690_encode.specs.declared.sequence.Tail.TheVariants as ending
use Rattle.asn1_x690_encode.specs.declared.choice.Others.{Others}
use Rattle.asn1_x690_encode.specs.declared.choice.Others.TheVariants as others

-- CHOICE and open types, and where any element is a value
abbrev pub is_headed : Bool → Node → Bool
is_headed true n = true
is_headed false (type.Choice root is_extensible known) = true
is_headed false (type.Open inner) = true
is_headed false n = false

-- SEQUENCE, SEQUENCE OF and SET OF have elements as contents
abbrev pub is_structured : Node → Bool
is_structured (type.Sequence root is_extensible known) = true
is_structured (type.SequenceOf size is_extensible item) = true
is_structured (type.SetOf size is_extensible item) = true
is_structured n = false

abbrev pub identifier_by : Bool → Tag → Identifier
identifier_by false tag = primitive tag
identifier_by true tag = constructed tag

-- whether a component must be present
abbrev pub is_required : Presence → Bool
is_required Mandatory = true
is_required p = false

-- how many lists of members may follow
abbrev pub rank_of : Others → ℕ
rank_of others.Nothing = 0
rank_of (others.Additions before known) = 1
rank_of others.Unknown = 0

-- what may follow components, as a number that grows with it
abbrev pub size_of : Tail → ℕ
size_of ending.End = 0
size_of (ending.Extension known is_extended) = 2 ^ 69 + 1
size_of (ending.Additions left) = 2 ^ 36 * left.rows.count + 2

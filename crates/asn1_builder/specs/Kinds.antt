-- The types of values of one part.
use Rattle.std.specs.Prelude.{Bool, true, false}
use Rattle.asn1_schema.specs.declared.tables.Node.{Node}
use Rattle.asn1_schema.specs.declared.tables.Node.TheVariants as type
use Rattle.asn1_builder.specs.declared.kind.Kind.{Kind}
use Rattle.asn1_builder.specs.declared.kind.Kind.TheVariants as kind

-- whether a type is of a kind
abbrev pub is_of_kind : Kind → Node → Bool
is_of_kind kind.Null type.Null = true
is_of_kind kind.Boolean type.Boolean = true
is_of_kind kind.Integer (type.IntegerBetween bounds is_extensible) = true
is_of_kind kind.Integer (type.IntegerAtLeast bound is_extensible) = true
is_of_kind kind.Integer type.Integer = true
is_of_kind kind.Unbounded type.Integer = true
is_of_kind kind.Enumerated (type.Enumerated last is_extensible additions) = true
is_of_kind kind.Bits (type.BitString size is_extensible has_names) = true
is_of_kind kind.Octets (type.OctetString size is_extensible) = true
is_of_kind kind.ObjectIdentifier type.ObjectIdentifier = true
is_of_kind kind.RelativeIdentifier type.RelativeIdentifier = true
is_of_kind kind.Real type.Real = true
is_of_kind kind.Utf8 type.Utf8String = true
is_of_kind kind.Text (type.Text size is_extensible alphabet whole) = true
is_of_kind kind.Time (type.Time of) = true
is_of_kind _ _ = false

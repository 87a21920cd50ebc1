-- What a builder holds: the parts of a value that is begun.
use Rattle.std.specs.Prelude.{ℕ, zero, suc, ◌-◌, List, length, Option, Some, None, Result, Ok, Err, slice_get}
use Rattle.asn1_schema.specs.declared.part.Part.{Part}
use Rattle.asn1_schema.specs.declared.tables.Node.{Node}
use Rattle.asn1_schema.specs.declared.tables.Node.TheVariants as type
use Rattle.asn1_schema.specs.declared.tables.Tables.{Tables}
use Rattle.asn1_schema_values.specs.declared.names.Names.{Names}
use Rattle.asn1_builder.specs.declared.builder.Builder.{Builder}
use Rattle.asn1_builder.specs.declared.error.BuildError.{BuildError}
use Rattle.asn1_builder.specs.declared.error.BuildError.TheVariants as error
use Rattle.asn1_builder.specs.declared.frame.Frame.{Frame}
use Rattle.asn1_builder.specs.declared.frame.Frame.TheVariants as frame

pub record Draft : Type 0 where
  pub tables : Tables
  pub names : Names
  -- the parts, and the octets in which they have their bits
  pub parts : List Part
  pub octets : List ℕ
  -- the values that are not ended, from the outermost one on
  pub frames : List Frame
  -- the type of the value that comes next, if one may
  pub next : Option ℕ

abbrev pub draft_of : Builder → Draft
draft_of b = record {
  tables = b.tables;
  names = b.names;
  parts = b.parts.items;
  octets = b.octets.items;
  frames = b.frames.items;
  next = b.next;
}

-- the innermost value that is not ended
abbrev pub innermost : List Frame → Option Frame
innermost frames = slice_get frames (length frames - 1)

-- the type of the value that may come after one is complete: the next item of a list
abbrev pub awaited : Option Frame → Option ℕ
awaited (Some (frame.Items at item)) = Some item
awaited _ = None

-- ---- the type of the next value

abbrev pub value_type : (ℕ → Option Node) → Option Node → Option Node
value_type inside (Some (type.Open inner)) = inside inner
value_type inside n = n

-- the type at a node; of an open type, that of its value, through a number of open types
abbrev pub type_through : ℕ → Tables → ℕ → Option Node
type_through zero t node = None
type_through (suc most) t node = value_type (type_through most t) (slice_get t.nodes.now node)

abbrev pub found_type : Option Node → Result Node BuildError
found_type None = Err error.NoNode
found_type (Some n) = Ok n

abbrev pub type_at : Tables → Option ℕ → Result Node BuildError
type_at t None = Err error.NoValue
type_at t (Some node) = found_type (type_through (length t.nodes.now) t node)

-- the type of the next value, or why there is none
abbrev pub expected_type : Draft → Result Node BuildError
expected_type d = type_at d.tables d.next

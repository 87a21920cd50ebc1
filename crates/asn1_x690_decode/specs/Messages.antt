-- What a decoder says of a message.
use Rattle.std.specs.Prelude.{ℕ, ◌-◌, List, length, drop}
use Rattle.asn1_bits.specs.Bits.{bits}
use Rattle.asn1_schema.specs.declared.part.Part.{Part}
use Rattle.asn1_schema.specs.Encodings.{Contents, Starts, only}
use Rattle.asn1_schema.specs.Pieces.{Parts}
use Rattle.asn1_schema.specs.Room.{Holds}
use Rattle.asn1_schema.specs.Values.{AreValues}
use Rattle.asn1_x690.specs.declared.fault.FaultKind.{FaultKind}
use Rattle.asn1_x690.specs.declared.fault.FaultKind.TheVariants.{Extra}
use Rattle.asn1_x690.specs.Der.{encoding_at}
use Rattle.asn1_x690_decode.specs.declared.context.Context.{Context}
use Rattle.asn1_x690_decode.specs.declared.message.Fault.{Fault as FoundFault}
use Rattle.asn1_x690_decode.specs.declared.message.Prefix.{Prefix}
use Rattle.asn1_x690_decode.specs.Tables.{tables_of, elements}

-- a message: an element that encodes a value of the type, and nothing after it
abbrev pub messages : Context → ℕ → ℕ → Contents FaultKind Parts
messages c depth node = only Extra node (encoding_at c.tables.nodes.now (tables_of c) depth node).encoding

-- the octets are a message, its parts are one value, and the room holds the first of them; the count is theirs
pub record IsComplete (c : Context) (depth node : ℕ) (room : List Part) (count : ℕ) : Type 0 where
  pub parts : Parts
  pub encoded : (messages c depth node).fills parts (bits c.octets.now)
  pub value : AreValues 1 parts
  pub held : Holds c.tables.ranges.now (bits c.octets.now) room count parts

-- the first fault of the octets as a message
abbrev pub IsFirstFault : Context → ℕ → ℕ → FoundFault → Type 0
IsFirstFault c depth node e =
    (messages c depth node).fault (bits c.octets.now)
    (record { node = e.node; left = length (bits c.octets.now) - e.at; kind = e.kind })

-- the octets begin with an element that encodes a value of the type, whose parts are one value
pub record IsPrefix (c : Context) (depth node : ℕ) (room : List Part) (p : Prefix) : Type 0 where
  pub parts : Parts
  pub starts : Starts (elements c depth node).encoding.encodes (bits c.octets.now) parts (drop p.bits (bits c.octets.now))
  pub value : AreValues 1 parts
  pub held : Holds c.tables.ranges.now (bits c.octets.now) room p.parts parts

-- the first fault of the octets as the beginning of such an element
abbrev pub IsFirstFaultOfPrefix : Context → ℕ → ℕ → FoundFault → Type 0
IsFirstFaultOfPrefix c depth node e =
    (elements c depth node).encoding.fault (bits c.octets.now)
    (record { node = e.node; left = length (bits c.octets.now) - e.at; kind = e.kind })

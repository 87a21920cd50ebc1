-- What a decoder says of a message.
use Rattle.std.specs.Prelude.{ℕ, ◌-◌, List, Bool, length, drop}
use Rattle.asn1_bits.specs.Bits.{bits}
use Rattle.asn1_schema.specs.declared.part.Part.{Part}
use Rattle.asn1_schema.specs.Pieces.{Parts}
use Rattle.asn1_schema.specs.Encodings.{Fault, Starts}
use Rattle.asn1_schema.specs.Values.{AreValues}
use Rattle.asn1_x691.specs.declared.fault.FaultKind.{FaultKind}
use Rattle.asn1_schema.specs.TypeEncodings.{TypeEncoding}
use Rattle.asn1_x691.specs.OpenTypes.{complete}
use Rattle.asn1_x691.specs.Limits.{no_limits}
use Rattle.asn1_x691.specs.Types.{type_at}
use Rattle.asn1_x691_decode.specs.declared.context.Context.{Context}
use Rattle.asn1_x691_decode.specs.declared.message.Fault.{Fault as FoundFault}
use Rattle.asn1_x691_decode.specs.declared.message.Prefix.{Prefix}
use Rattle.asn1_schema.specs.Room.{Holds}
use Rattle.asn1_x691_decode.specs.Decoding.{defaults_in, types}

module _ (c : Context) where
  abbrev message : List Bool
  message = bits c.octets.now

  -- the fault, by how many bits of the message are left
  abbrev pub named : FoundFault → Fault FaultKind
  named e = record { node = e.node; left = length message - e.at; kind = e.kind }

  -- the message is the complete encoding of these parts, which are one value, and of which the room holds the first
  pub record IsComplete (depth node : ℕ) (room : List Part) (count : ℕ) : Type 0 where
    pub parts : Parts
    pub encodes : (complete node (types c depth node)).fills parts message
    pub value : AreValues 1 parts
    pub held : Holds c.tables.ranges.now message room count parts

  abbrev pub IsFirstFault : ℕ → ℕ → FoundFault → Type 0
  IsFirstFault depth node e = (complete node (types c depth node)).fault message (named e)

  -- the first `p.bits` bits of the message encode these parts, which are one value
  pub record IsPrefix (depth node : ℕ) (room : List Part) (p : Prefix) : Type 0 where
    pub parts : Parts
    pub starts : Starts (types c depth node 0).encoding.encodes message parts (drop p.bits message)
    pub value : AreValues 1 parts
    pub held : Holds c.tables.ranges.now message room p.parts parts

  abbrev pub IsFirstFaultOfPrefix : ℕ → ℕ → FoundFault → Type 0
  IsFirstFaultOfPrefix depth node e = (types c depth node 0).encoding.fault message (named e)

-- the types of a context in X.691, which has no limits
abbrev pub unlimited_types : Context → ℕ → ℕ → ℕ → TypeEncoding FaultKind
unlimited_types c depth node = type_at no_limits c.is_aligned c.tables.nodes.now c.tables.members.now c.tables.ranges.now
    (defaults_in c) depth node

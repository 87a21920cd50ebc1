-- What an encoder says of a message.
use Rattle.std.specs.Prelude.{◌≡◌, ℕ, ◌*◌, ◌≤◌, ◌⊎◌, Bool, List, ◌++◌, length, take, slice_get}
use Rattle.asn1_bits.specs.Bits.{bits}
use Rattle.asn1_schema.specs.declared.misfit.MisfitKind.{MisfitKind}
use Rattle.asn1_schema.specs.Pieces.{Parts}
use Rattle.asn1_x691.specs.OpenTypes.{complete}
use Rattle.asn1_x691_writers.specs.declared.state.Rejection.TheVariants.{Misfit as Named, Unsupported, NoRoom}
use Rattle.asn1_x691_writers.specs.Written.{IsIndex}
use Rattle.asn1_x691_encode.specs.declared.context.Context.{Context}
use Rattle.asn1_x691_encode.specs.declared.message.Encoded.{Encoded}
use Rattle.asn1_x691_encode.specs.declared.message.Misfit.{Misfit}
use Rattle.asn1_x691_encode.specs.Encoding.{tape, types, IsLater, IsFar, IsLong, IsOff, IsWide, AreWide}

module _ (c : Context) (depth node : ℕ) where
  -- some first parts have a complete encoding of `e.octets` octets, which the first octets are, unless there are too few
  pub record IsMessage (octets : List ℕ) (e : Encoded) : Type 0 where
    pub parts : Parts
    pub list : List Bool
    pub encodes : (complete node (types c depth node)).fills parts list
    pub taken : tape c 0 ≡ parts ++ tape c e.parts
    pub size : IsIndex (8 * e.octets) (length list)
    pub kept : length list ≤ 8 * length octets → take (length list) (bits octets) ≡ list

  -- the parts begin with no value, and this is their first misfit
  pub record IsFirst (m : Misfit) : Type 0 where
    pub kind : MisfitKind
    pub reason : m.reason ≡ Named kind
    pub first : (types c depth node 0).misfit (tape c 0) (record { node = m.node; left = length (tape c m.part); kind = kind })

  -- the parts have a value that is left: it is not encoded yet, or it was to be compared in octets that are too few for it
  abbrev pub IsNotYet : Misfit → Type 0
  IsNotYet m = ((m.reason ≡ Unsupported)
      × (IsLater c m.part (slice_get c.tables.nodes.now m.node) ⊎ (IsFar c m.part ⊎ (IsLong c m.part ⊎ IsOff c m.part))))
      ⊎ ((m.reason ≡ NoRoom) × (IsWide c m.part ⊎ AreWide c m.part))

  abbrev pub IsRejected : Misfit → Type 0
  IsRejected m = IsFirst m ⊎ IsNotYet m

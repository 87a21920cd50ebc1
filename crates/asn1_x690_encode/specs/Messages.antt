-- What an encoder says of a message.
use Rattle.std.specs.Prelude.{◌≡◌, ℕ, ◌*◌, ◌≤◌, ◌⊎◌, Bool, false, List, [], ◌++◌, length, take, Result, IfOk, IfErr}
use Rattle.asn1_bits.specs.Bits.{bits}
use Rattle.asn1_schema.specs.declared.misfit.MisfitKind.{MisfitKind}
use Rattle.asn1_schema.specs.Pieces.{Parts}
use Rattle.asn1_schema.specs.TypeEncodings.{TypeEncoding}
use Rattle.asn1_x690.specs.declared.fault.FaultKind.{FaultKind}
use Rattle.asn1_x690.specs.Der.{encoding_at}
use Rattle.asn1_x691_writers.specs.declared.state.Rejection.TheVariants.{Misfit as Named}
use Rattle.asn1_x691_fields.specs.declared.defaults.Defaults.{Defaults}
use Rattle.asn1_x691_writers.specs.Written.{IsIndex}
use Rattle.asn1_x690_encode.specs.declared.context.Context.{Context}
use Rattle.asn1_x690_encode.specs.declared.message.Encoded.{Encoded}
use Rattle.asn1_x690_encode.specs.declared.message.Misfit.{Misfit}
use Rattle.asn1_x690_encode.specs.Encoding.{nodes_of, tape, tables_of, IsLeft}

module _ (c : Context) (depth node : ℕ) where
  abbrev pub type_of : TypeEncoding FaultKind
  type_of = encoding_at (nodes_of c) (tables_of c) depth node

  -- some first parts have an encoding of `e.octets` octets, which the first octets are, unless there are too few
  pub record IsMessage (octets : List ℕ) (e : Encoded) : Type 0 where
    pub parts : Parts
    pub list : List Bool
    pub encodes : type_of.encoding.encodes parts list
    pub taken : tape c 0 ≡ parts ++ tape c e.parts
    pub size : IsIndex (8 * e.octets) (length list)
    pub kept : length list ≤ 8 * length octets → take (length list) (bits octets) ≡ list

  -- the parts begin with no value, and this is their first misfit
  pub record IsFirst (m : Misfit) : Type 0 where
    pub kind : MisfitKind
    pub reason : m.reason ≡ Named kind
    pub first : type_of.misfit (tape c 0) (record { node = m.node; left = length (tape c m.part); kind = kind })

  -- the parts begin with no value, or they are left
  abbrev pub IsRejected : Misfit → Type 0
  IsRejected m = IsFirst m ⊎ IsLeft c (record { at = 0; next = m.part; node = m.node; reason = m.reason })

-- values that are not compared: no value is a default value, and the items of a SET OF may have any order
pub record IsMeasured (c : Context) (depth node : ℕ) (r : Result Encoded Misfit) : Type 0 where
  pub defaults : Defaults
  pub none : defaults.spans.now ≡ []
  pub encoded : IfOk r (λ e. IsMessage (record c { defaults = defaults; is_ordered = false }) depth node [] e)
  pub misfit : IfErr r (λ e. IsRejected (record c { defaults = defaults; is_ordered = false }) depth node e)

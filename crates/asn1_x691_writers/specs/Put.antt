-- What a call that writes a part did: it wrote the part's encoding, or it names the misfit.
use Rattle.std.specs.Prelude.{◌≡◌, ℕ, ℤ, ◌^◌, ◌≤◌, ◌⊎◌, Bool, true, false, List, [], ◌∷◌, length}
use Rattle.asn1_bits.specs.Bits.{bits}
use Rattle.asn1_schema.specs.declared.misfit.MisfitKind.{MisfitKind}
use Rattle.asn1_schema.specs.declared.part.Part.{Part}
use Rattle.asn1_schema.specs.declared.part.Part.TheVariants.{BitsInFragments, OctetsInFragments}
use Rattle.asn1_schema.specs.declared.part.Fragments.{Fragments}
use Rattle.asn1_schema.specs.declared.tables.Range.{Range}
use Rattle.asn1_schema.specs.Pieces.{Piece, Integer, UnknownEnumerated, Parts}
use Rattle.asn1_schema.specs.PiecesOfParts.{piece_of, joined}
use Rattle.asn1_schema.specs.TypeEncodings.{TypeEncoding}
use Rattle.asn1_x691.specs.declared.fault.FaultKind.{FaultKind}
use Rattle.asn1_x691_fields.specs.Numbers.{distance}
use Rattle.asn1_x691_writers.specs.declared.state.Writer.{Writer}
use Rattle.asn1_x691_writers.specs.declared.state.Rejection.TheVariants.{Misfit, Unsupported}
use Rattle.asn1_x691_writers.specs.Written.{IsWritten}

-- the part is a string whose octets are in fragments
abbrev pub IsInFragments : Part → Type 0
IsInFragments p = (f : Fragments) × (p ≡ OctetsInFragments f)

-- the part is a string whose bits are in fragments
abbrev pub AreBitsInFragments : Part → Type 0
AreBitsInFragments p = (f : Fragments) × (p ≡ BitsInFragments f)

-- the part is a string in fragments of a source, of 2^64 bits or more
abbrev pub HasManyBits : List ℕ → Part → Type 0
HasManyBits source p = (f : Fragments) × (p ≡ BitsInFragments f) × (2 ^ 64 ≤ length (joined 1 (bits source) f))

-- the piece that a part is, whose spans are bits of these octets, by a table of ranges
abbrev pub piece_in : List Range → List ℕ → Part → Piece
piece_in ranges source p = piece_of ranges (bits source) p

-- parts that begin with this one begin with no value, and the state names their first misfit
pub record IsMisfit (T : ℕ → TypeEncoding FaultKind) (p : Piece) (new : Writer) : Type 0 where
  pub kind : MisfitKind
  pub reason : new.reason ≡ Misfit kind
  pub first : (at : ℕ) (rest : Parts) → (T at).misfit (p ∷ rest) (record { node = new.node; left = length (p ∷ rest); kind = kind })

-- ---- what is not written yet

-- a number outside -2^127 to 2^127 - 1
abbrev pub IsFarInteger : Piece → Type 0
IsFarInteger p = (z : ℤ) × (p ≡ Integer z) × (2 ^ 127 ≤ distance z)

-- an unknown enumeral of an index from 2^128 on
abbrev pub IsFarIndex : Piece → Type 0
IsFarIndex p = (n : ℕ) × (p ≡ UnknownEnumerated n) × (2 ^ 128 ≤ n)

pub record IsUnsupported (p : Piece) (new : Writer) : Type 0 where
  pub reason : new.reason ≡ Unsupported
  pub far : IsFarInteger p ⊎ IsFarIndex p

pub record IsUnchanged (was : List ℕ) (old : Writer) (now : List ℕ) (new : Writer) : Type 0 where
  pub octets : now ≡ was
  pub at : new.at ≡ old.at
  pub next : new.next ≡ old.next

pub record IsPutOne (aligned : Bool) (T : ℕ → TypeEncoding FaultKind) (p : Piece) (was : List ℕ) (old : Writer) (now : List ℕ)
    (new : Writer) : Type 0 where
  pub written : IsWritten aligned (λ at. (T at).encoding) (p ∷ []) was old.at now new.at
  pub next : new.next ≡ old.next

-- the part was written, or nothing was
abbrev pub IsPut : Bool → (ℕ → TypeEncoding FaultKind) → Piece → List ℕ → Writer → List ℕ → Writer → Bool → Type 0
IsPut aligned T p was old now new true = IsPutOne aligned T p was old now new
IsPut aligned T p was old now new false = (IsMisfit T p new ⊎ IsUnsupported p new) × IsUnchanged was old now new

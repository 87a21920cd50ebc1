-- What a call that writes a part did: it wrote the contents octets of the part, or it names the misfit.
use Rattle.std.specs.Prelude.{◌≡◌, ℕ, ℤ, ◌%◌, ◌^◌, ◌≤◌, ◌⊎◌, Bool, true, false, List, [], ◌∷◌, length}
use Rattle.asn1_schema.specs.declared.misfit.MisfitKind.{MisfitKind}
use Rattle.asn1_bits.specs.Bits.{bits}
use Rattle.asn1_schema.specs.declared.part.Part.{Part}
use Rattle.asn1_schema.specs.declared.part.Part.TheVariants.{Signed}
use Rattle.asn1_schema.specs.declared.part.Span.{Span}
use Rattle.asn1_schema.specs.Pieces.{Piece, Parts, Bits, Octets}
use Rattle.asn1_schema.specs.PiecesOfParts.{bits_of}
use Rattle.asn1_x690.specs.Leaves.{IsInteger}
use Rattle.asn1_x690.specs.declared.fault.FaultKind.{FaultKind}
use Rattle.asn1_x690.specs.TypeContents.{TypeContents}
use Rattle.asn1_x691_writers.specs.declared.state.Writer.{Writer}
use Rattle.asn1_x691_writers.specs.declared.state.Rejection.TheVariants.{Misfit, Unsupported}
use Rattle.asn1_x691_writers.specs.Put.{IsFarInteger, IsUnchanged}
use Rattle.asn1_x691_writers.specs.Written.{IsGrown}

-- whole octets that the part fills were written
pub record IsPutOne (F : TypeContents FaultKind) (p : Piece) (was : List ℕ) (old : Writer) (now : List ℕ) (new : Writer) : Type 0 where
  pub list : List Bool
  pub fills : F.contents.fills (p ∷ []) list
  pub whole : length list % 8 ≡ 0
  pub grown : IsGrown was old.at now new.at list
  pub next : new.next ≡ old.next

-- parts that begin with this one begin with no value, and the state names their first misfit
pub record IsMisfit (F : TypeContents FaultKind) (p : Piece) (new : Writer) : Type 0 where
  pub kind : MisfitKind
  pub reason : new.reason ≡ Misfit kind
  pub first : (rest : Parts) → F.misfit (p ∷ rest) (record { node = new.node; left = length (p ∷ rest); kind = kind })

-- a number outside -2^127 to 2^127 - 1, and the part does not have its minimal octets of two's complement
pub record IsFarWithout (source : List ℕ) (part : Part) (p : Piece) : Type 0 where
  pub far : IsFarInteger p
  pub without : (s : Span) → part ≡ Signed s → (n : ℤ) → IsInteger n (bits_of (bits source) s) → ⊥

-- octets of 2^64 bits and more, which only fragments over one another have
abbrev pub AreTooMany : Piece → Type 0
AreTooMany p = (x : List Bool) × (p ≡ Octets x) × (2 ^ 64 ≤ length x)

-- 2^64 bits and more
abbrev pub AreTooManyBits : Piece → Type 0
AreTooManyBits p = (x : List Bool) × (p ≡ Bits x) × (2 ^ 64 ≤ length x)

-- this holds of a part that is left, and the state names the node of its type
pub record LeftAt (Left : Type 0) (node : ℕ) (new : Writer) : Type 0 where
  pub holds : Left
  pub same : new.node ≡ node

-- the part was written, or nothing was: it has no encoding, or it is left, and `Left` holds then
abbrev pub IsPut : Type 0 → TypeContents FaultKind → Piece → List ℕ → Writer → List ℕ → Writer → Bool → Type 0
IsPut Left F p was old now new true = IsPutOne F p was old now new
IsPut Left F p was old now new false =
    (IsMisfit F p new ⊎ ((new.reason ≡ Unsupported) × Left)) × IsUnchanged was old now new

-- What a call did that encodes a component of a SEQUENCE, and a run of components.
use Rattle.std.specs.Prelude.{◌≡◌, ℕ, ◌+◌, ◌⊎◌, Bool, true, false, List, ◌∷◌, ◌++◌, length}
use Rattle.asn1_bits.specs.Bits.{digits}
use Rattle.asn1_schema.specs.declared.misfit.MisfitKind.{MisfitKind}
use Rattle.asn1_schema.specs.declared.tables.Presence.{Presence}
use Rattle.asn1_schema.specs.declared.tables.Presence.TheVariants as presence
use Rattle.asn1_schema.specs.Pieces.{Absent, Parts}
use Rattle.asn1_schema.specs.TypeEncodings.{TypeEncoding, AfterHeader, IsAbsent, Misfit}
use Rattle.asn1_x691.specs.declared.fault.FaultKind.{FaultKind}
use Rattle.asn1_x691_writers.specs.declared.state.Writer.{Writer}
use Rattle.asn1_x691_writers.specs.declared.state.Rejection.TheVariants as rejection
use Rattle.asn1_x691_writers.specs.Written.{IsIndex, IsGrown, IsAlike}
use Rattle.asn1_x691_encode.specs.declared.context.Context.{Context}
use Rattle.asn1_x691_encode.specs.Encoding.{tape, IsEncoded, Outcome}

-- ---- one component

-- a bit at an index that was written before is 1 now
abbrev pub IsSet : List ℕ → ℕ → List ℕ → Type 0
IsSet was at now = (first : List ℕ) (start new : ℕ) (xs ys : List Bool) (b : Bool)
    → ((n : ℕ) → IsIndex start n → IsIndex at (n + length xs)) → IsGrown first start was new (xs ++ (b ∷ ys))
    → IsGrown first start now new (xs ++ (true ∷ ys))

-- the next part says that the component is absent, and nothing was written
pub record IsPassedOver (c : Context) (was : List ℕ) (old : Writer) (now : List ℕ) (new : Writer) : Type 0 where
  pub taken : tape c old.next ≡ Absent ∷ tape c new.next
  pub octets : now ≡ was
  pub at : new.at ≡ old.at

-- the component is present: its bit was set, and its value encoded
pub record IsIncluded (c : Context) (A : ℕ → TypeEncoding FaultKind) (head : ℕ) (was : List ℕ) (old : Writer) (now : List ℕ) (new : Writer)
    : Type 0 where
  pub mid : List ℕ
  pub present : IsAbsent (tape c old.next) → ⊥
  pub set : IsSet was head mid
  pub encoded : IsEncoded c A mid old now new

abbrev pub OptionalOutcome : Context → (ℕ → TypeEncoding FaultKind) → ℕ → List ℕ → Writer → List ℕ → Writer → Bool → Type 0
OptionalOutcome c A head was old now new true = IsPassedOver c was old now new ⊎ IsIncluded c A head was old now new
OptionalOutcome c A head was old now new false = (IsAbsent (tape c old.next) → ⊥) × Outcome c A was old now new false

-- a component of a SEQUENCE
abbrev pub ComponentOutcome : Context → (ℕ → TypeEncoding FaultKind) → Presence → ℕ → List ℕ → Writer → List ℕ → Writer → Bool → Type 0
ComponentOutcome c A presence.Mandatory head was old now new r = Outcome c A was old now new r
ComponentOutcome c A presence.Optional head was old now new r = OptionalOutcome c A head was old now new r
ComponentOutcome c A (presence.Default value) head was old now new r = OptionalOutcome c A head was old now new r

-- ---- a run of components

-- The next parts tell these presence bits, and these bits encode them, where the first components are those of W without those of R.
-- What is encoded with the rest is encoded with the whole, and a misfit of the rest is one of the whole.
pub record ArePassed (c : Context) (W R : ℕ → AfterHeader FaultKind (List Bool)) (bits list : List Bool) (old new : Writer) : Type 0 where
  pub parts : Parts
  pub taken : tape c old.next ≡ parts ++ tape c new.next
  pub alike : (n : ℕ) → IsAlike c.is_aligned n old.at → IsAlike c.is_aligned (n + length list) new.at
  pub encodes : (n : ℕ) → IsAlike c.is_aligned n old.at → (more : List Bool) (ts : Parts) (us : List Bool)
      → ((R (n + length list)).after more).encodes ts us → ((W n).after (bits ++ more)).encodes (parts ++ ts) (list ++ us)
  pub misfit : (n : ℕ) → IsAlike c.is_aligned n old.at → (e : Misfit) → (R (n + length list)).misfit (tape c new.next) e
      → (W n).misfit (tape c old.next) e

-- the next parts begin with no such components, and the state names their first misfit
pub record AreMisfit (c : Context) (F : ℕ → AfterHeader FaultKind (List Bool)) (old new : Writer) : Type 0 where
  pub kind : MisfitKind
  pub reason : new.reason ≡ rejection.Misfit kind
  pub first : (at : ℕ) → IsAlike c.is_aligned at old.at
      → (F at).misfit (tape c old.next) (record { node = new.node; left = length (tape c new.next); kind = kind })

-- The presence bits, of which `left` are left as zeros, and the components follow what the octets held. The next presence bit is at
-- `head`.
pub record AreUnderway (c : Context) (W R : ℕ → AfterHeader FaultKind (List Bool)) (width left : ℕ) (first : List ℕ) (start : ℕ) (mid : Writer)
    (now : List ℕ) (new : Writer) (head : ℕ) : Type 0 where
  pub bits : List Bool
  pub list : List Bool
  pub passed : ArePassed c W R bits list mid new
  pub size : width ≡ length bits + left
  pub grown : IsGrown first start now new.at (bits ++ (digits 0 left ++ list))
  pub index : (n : ℕ) → IsIndex start n → IsIndex head (n + length bits)

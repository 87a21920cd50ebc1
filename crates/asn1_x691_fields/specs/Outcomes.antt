-- What a call did to the state of a decoder: what it read, or the fault that it found.
use Rattle.std.specs.Prelude.{◌≡◌, ℕ, ◌-◌, ◌%◌, ◌≤◌, Bool, true, List, length, take, drop, Option, Some, None}
use Rattle.asn1_schema.specs.Encodings.{Fault, Encoding, Starts}
use Rattle.asn1_x691.specs.declared.fault.FaultKind.{FaultKind}
use Rattle.asn1_x691_fields.specs.declared.state.State.{State}

-- the bits that are left of a message, up to the end of the complete encoding
abbrev pub rest : List Bool → State → List Bool
rest list s = drop s.at (take s.end list)

-- how many bits of the complete encoding precede them
abbrev pub position : State → ℕ
position s = s.at - s.first

abbrev pub fault_of : State → Fault FaultKind
fault_of s = record { node = s.node; left = s.end - s.at; kind = s.kind }

pub record IsWithin (list : List Bool) (s : State) : Type 0 where
  pub begins : s.first ≤ s.at
  pub ends : s.at ≤ s.end
  pub inside : s.end ≤ length list

-- in the ALIGNED variant a complete encoding begins with an octet of the message
abbrev pub IsPlaced : Bool → State → Type 0
IsPlaced aligned s = aligned ≡ true → s.first % 8 ≡ 0

-- bits of the same complete encoding were passed
pub record IsMoved (list : List Bool) (old new : State) : Type 0 where
  pub same_first : new.first ≡ old.first
  pub same_end : new.end ≡ old.end
  pub on : old.at ≤ new.at
  pub ends : new.at ≤ new.end
  pub inside : new.end ≤ length list

-- the same where no part was decoded
pub record IsOnward (list : List Bool) (old new : State) : Type 0 where
  pub same_first : new.first ≡ old.first
  pub same_end : new.end ≡ old.end
  pub same_count : new.count ≡ old.count
  pub on : old.at ≤ new.at
  pub ends : new.at ≤ new.end
  pub inside : new.end ≤ length list

-- t was read, which is f t of the encoding; or the state names the first fault
abbrev pub IsRead : {X T : Type 0} → (ℕ → Encoding FaultKind X) → (T → X) → List Bool → State → State → Option T → Type 0
IsRead A f list old new (Some t) = Starts (A (position old)).encodes (rest list old) (f t) (rest list new)
IsRead A f list old new None = (A (position old)).fault (rest list old) (fault_of new)

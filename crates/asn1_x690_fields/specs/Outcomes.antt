-- What a call did to the state of a decoder: what it read, or the fault that it found.
use Rattle.std.specs.Prelude.{◌≡◌, ℕ, ◌-◌, ◌^◌, ◌<◌, ◌≤◌, ◌⊎◌, Bool, List, length, take, drop, Option, Some, None}
use Rattle.asn1_schema.specs.Encodings.{Fault, Encoding, Starts}
use Rattle.asn1_schema.specs.PiecesOfParts.{bits_at}
use Rattle.asn1_x690.specs.declared.fault.FaultKind.{FaultKind}
use Rattle.asn1_x690.specs.declared.tables.Identifier.{Identifier}
use Rattle.asn1_x690.specs.Elements.{any_element}
use Rattle.asn1_x690_fields.specs.declared.state.State.{State}
use Rattle.asn1_x690_fields.specs.declared.identifier.FoundIdentifier.{FoundIdentifier}
use Rattle.asn1_x690_fields.specs.declared.header.Header.{Header}

-- the bits that are left of a message
abbrev pub rest : List Bool → State → List Bool
rest list s = drop s.at (take s.end list)

abbrev pub fault_of : State → Fault FaultKind
fault_of s = record { node = s.node; left = s.end - s.at; kind = s.kind }

pub record IsWithin (list : List Bool) (s : State) : Type 0 where
  pub ends : s.at ≤ s.end
  pub inside : s.end ≤ length list

-- bits were passed, and no part was decoded
pub record IsOnward (list : List Bool) (old new : State) : Type 0 where
  pub same_end : new.end ≡ old.end
  pub same_count : new.count ≡ old.count
  pub on : old.at ≤ new.at
  pub ends : new.at ≤ new.end
  pub inside : new.end ≤ length list

-- t was read, which is f t of the encoding; or the state names the first fault
abbrev pub IsRead : {X T : Type 0} → Encoding FaultKind X → (T → X) → List Bool → State → State → Option T → Type 0
IsRead A f list old new (Some t) = Starts A.encodes (rest list old) (f t) (rest list new)
IsRead A f list old new None = A.fault (rest list old) (fault_of new)

-- t was read, which shows a value of the encoding
abbrev pub IsReadAs : {X T : Type 0} → Encoding FaultKind X → (T → X → Type 0) → List Bool → State → State → Option T → Type 0
IsReadAs A Shows list old new (Some t) = (x : _) × Shows t x × Starts A.encodes (rest list old) x (rest list new)
IsReadAs A Shows list old new None = A.fault (rest list old) (fault_of new)

-- the number, or that 64 bits do not hold it
abbrev pub IsShown : Option ℕ → ℕ → Type 0
IsShown None n = 2 ^ 64 ≤ n
IsShown (Some m) n = (m ≡ n) × (n < 2 ^ 64)

-- the length, or the greatest number of 64 bits, which no message exceeds
abbrev pub IsLength : ℕ → ℕ → Type 0
IsLength shown n = (shown ≤ n) × ((shown ≡ n) ⊎ (2 ^ 64 - 1 ≤ shown))

pub record IsIdentifier (found : FoundIdentifier) (id : Identifier) : Type 0 where
  pub class : found.class ≡ id.tag.class
  pub form : found.is_constructed ≡ id.is_constructed
  pub number : IsShown found.number id.tag.number

-- an identifier, and the contents octets at an index
pub record IsHeader (list : List Bool) (header : Header) (v : Identifier × List Bool) : Type 0 where
  pub identifier : IsIdentifier header.identifier v.0
  pub contents : v.1 ≡ bits_at list header.from (header.to - header.from)

-- the bits begin with an element that has this header; other bits follow it
abbrev pub IsElement : List Bool → List Bool → ℕ → Header → List Bool → Type 0
IsElement list left node header others =
    (v : Identifier × List Bool) × IsHeader list header v × Starts (any_element node).encodes left v others

-- What a walk over elements did.
use Rattle.std.specs.Prelude.{◌≡◌, ℕ, ◌-◌, ◌≤◌, Bool, true, false, List, length}
use Rattle.asn1_bits.specs.Bits.{bits}
use Rattle.asn1_schema.specs.Encodings.{Fault, Contents, with_more_after}
use Rattle.asn1_schema.specs.PiecesOfParts.{bits_at}
use Rattle.asn1_x690.specs.declared.fault.FaultKind.{FaultKind}
use Rattle.asn1_x690_fields.specs.declared.state.State.{State}
use Rattle.asn1_x690_fields.specs.declared.header.Header.{Header}
use Rattle.asn1_x690_fields.specs.Outcomes.{rest, fault_of}
use Rattle.asn1_x690_elements.specs.declared.elements.Fault.{Fault as FoundFault}
use Rattle.asn1_x690_elements.specs.Elements.{Element, inside, levels}
use Rattle.asn1_x690_elements.specs.Room.{Holds, IsGrown}

-- bits were passed
pub record IsMoved (list : List Bool) (old new : State) : Type 0 where
  pub same_end : new.end ≡ old.end
  pub on : old.at ≤ new.at
  pub ends : new.at ≤ new.end
  pub inside : new.end ≤ length list

-- elements were found, which F says of the bits
pub record IsFilled (F : Contents FaultKind (List Element)) (list bits : List Bool) (old new : State) (was now : List Header) : Type 0 where
  pub elements : List Element
  pub fills : F.fills elements bits
  pub grown : IsGrown list was old.count now new.count elements

-- all bits that are left are elements; or the state names the first fault
abbrev pub Outcome : List Bool → Contents FaultKind (List Element) → State → State → List Header → List Header → Bool → Type 0
Outcome list F old new was now true = IsFilled F list (rest list old) old new was now
Outcome list F old new was now false = F.fault (rest list old) (fault_of new)

-- the same of the contents octets of a header, after which other bits follow
abbrev pub InnerOutcome : List Bool → Contents FaultKind (List Element) → Header → State → State → List Header → List Header → Bool → Type 0
InnerOutcome list F h old new was now true =
    IsFilled (inside F h.identifier.is_constructed) list (bits_at list h.from (h.to - h.from)) old new was now
InnerOutcome list F h old new was now false =
    (e : Fault FaultKind) × (inside F h.identifier.is_constructed).fault (bits_at list h.from (h.to - h.from)) e
    × (fault_of new ≡ with_more_after (old.end - h.to) e)

-- the octets are elements, of which the room holds the headers of the first
pub record AreElements (octets : List ℕ) (depth : ℕ) (room : List Header) (count : ℕ) : Type 0 where
  pub elements : List Element
  pub fills : (levels depth).fills elements (bits octets)
  pub held : Holds (bits octets) room count elements

-- there is no schema, so the node of the fault tells nothing
abbrev pub IsFirstFault : List ℕ → ℕ → FoundFault → Type 0
IsFirstFault octets depth e =
    (n : ℕ) × (levels depth).fault (bits octets) (record { node = n; left = length (bits octets) - e.at; kind = e.kind })

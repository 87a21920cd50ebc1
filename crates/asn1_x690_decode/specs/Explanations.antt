-- What a message has at its first fault.
use Rattle.std.specs.Prelude.{◌≡◌, ℕ, ◌+◌, Bool, List, length, drop}
use Rattle.asn1_bits.specs.Bits.{bits}
use Rattle.asn1_schema.specs.Encodings.{Fault, Starts}
use Rattle.asn1_x690.specs.declared.fault.FaultKind.{FaultKind}
use Rattle.asn1_x690.specs.declared.tables.Identifier.{Identifier}
use Rattle.asn1_x690.specs.Elements.{any_element}
use Rattle.asn1_x690_fields.specs.declared.identifier.FoundIdentifier.{FoundIdentifier}
use Rattle.asn1_x690_fields.specs.Outcomes.{IsIdentifier}

-- the bits from the index at on begin with an element of this identifier, whose contents octets begin at the index from and end
-- at the index to
pub record IsElementAt (octets : List ℕ) (at from to : ℕ) (found : FoundIdentifier) : Type 0 where
  pub element : Identifier × List Bool
  pub after : List Bool
  pub starts : Starts (any_element 0).encodes (drop at (bits octets)) element after
  pub identifier : IsIdentifier found element.0
  pub contents : from + length element.1 ≡ to
  pub ends : to + length after ≡ length (bits octets)

-- the bits from the index on begin with no element: octets are missing, or its identifier or its length is invalid
abbrev pub HasNoElementAt : List ℕ → ℕ → Type 0
HasNoElementAt octets at = (e : Fault FaultKind) × (any_element 0).fault (drop at (bits octets)) e

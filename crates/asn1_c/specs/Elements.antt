-- Elements of DER that lie in octets (X.690 8.1), and why octets begin with none.
use Rattle.std.specs.Prelude.{◌≡◌, ◌+◌, ◌-◌, ◌≤◌, ◌^◌, ℕ, List, Bool, take, drop, length}
use Rattle.asn1_bits.specs.Bits.{bits}
use Rattle.asn1_schema.specs.Encodings.{Fault, Starts}
use Rattle.asn1_x690.specs.declared.fault.FaultKind.{FaultKind}
use Rattle.asn1_x690.specs.declared.fault.FaultKind.TheVariants as kind
use Rattle.asn1_x690.specs.declared.tables.Class.{Class}
use Rattle.asn1_x690.specs.declared.tables.Class.TheVariants.{Universal, Application, Context, Private}
use Rattle.asn1_x690.specs.declared.tables.Identifier.{Identifier}
use Rattle.asn1_x690.specs.Elements.{any_element}
use Rattle.asn1_c.specs.declared.elements.Element.{Element}

-- `count` octets from an offset on
abbrev pub part : List ℕ → ℕ → ℕ → List ℕ
part octets first count = take count (drop first octets)

-- bits 8 and 7 of the first octet (8.1.2.2)
abbrev pub class_number : Class → ℕ
class_number Universal = 0
class_number Application = 1
class_number Context = 2
class_number Private = 3

-- the octets from the position up to the element's end are an element, and C receives its identifier and the index of its contents octets
pub record IsElementAt (octets : List ℕ) (position : ℕ) (e : Element) : Type 0 where
  pub identifier : Identifier
  pub class : e.class ≡ class_number identifier.tag.class
  pub constructed : e.constructed ≡ identifier.is_constructed
  pub number : e.number ≡ identifier.tag.number
  pub begins : position ≤ e.first
  pub ends : e.first + e.length ≡ e.end
  pub within : e.end ≤ length octets
  pub encoded : (any_element 0).encodes (identifier, bits (part octets e.first e.length)) (bits (part octets position (e.end - position)))

-- the octets from the position on begin with an element, and 64 bits do not hold the number of its tag
pub record HasLargeTagAt (octets : List ℕ) (position : ℕ) : Type 0 where
  pub element : Identifier × List Bool
  pub rest : List Bool
  pub starts : Starts (any_element 0).encodes (bits (drop position octets)) element rest
  pub large : 2 ^ 64 ≤ element.0.tag.number

-- the code of a fault
abbrev pub fault_code : FaultKind → ℕ
fault_code kind.Short = 15
fault_code kind.NotMinimal = 28
fault_code kind.Indefinite = 29
fault_code kind.Reserved = 30
fault_code kind.OtherTag = 32
fault_code kind.Missing = 32
fault_code kind.Extra = 32
fault_code kind.Contents = 32
fault_code kind.NotPermitted = 32
fault_code kind.DefaultValue = 32
fault_code kind.NotAscending = 32
fault_code kind.NoNode = 32
fault_code kind.TooDeep = 32

-- the octets from the position on begin with no element, and the code is that of the first fault
pub record IsElementFaultAt (octets : List ℕ) (position code : ℕ) : Type 0 where
  pub fault : Fault FaultKind
  pub named : fault_code fault.kind ≡ code
  pub first : (any_element 0).fault (bits (drop position octets)) fault

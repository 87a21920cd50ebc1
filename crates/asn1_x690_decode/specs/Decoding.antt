-- What a call of the decoder did: the parts that it found, or the first fault.
use Rattle.std.specs.Prelude.{◌≡◌, ℕ, ◌-◌, ◌%◌, ◌≤◌, Bool, true, false, List, [], ◌∷◌, length, Option, Some, None, Result, Ok, Err}
use Rattle.asn1_bits.specs.Bits.{bits}
use Rattle.asn1_schema.specs.declared.part.Part.{Part}
use Rattle.asn1_schema.specs.declared.part.Span.{Span}
use Rattle.asn1_schema.specs.declared.tables.Range.{Range}
use Rattle.asn1_schema.specs.declared.tables.Node.{Node}
use Rattle.asn1_schema.specs.Encodings.{Fault, Encoding, Contents, Starts}
use Rattle.asn1_schema.specs.Pieces.{Parts}
use Rattle.asn1_schema.specs.PiecesOfParts.{piece_of, bits_at, bits_of}
use Rattle.asn1_schema.specs.Room.{IsGrown}
use Rattle.asn1_x690.specs.declared.fault.FaultKind.{FaultKind}
use Rattle.asn1_x690.specs.declared.tables.Identifier.{Identifier}
use Rattle.asn1_x690.specs.declared.tables.TypeTags.{TypeTags}
use Rattle.asn1_x690.specs.Elements.{any_element}
use Rattle.asn1_x690.specs.TypeContents.{TypeContents}
use Rattle.asn1_x690_fields.specs.declared.state.State.{State}
use Rattle.asn1_x690_fields.specs.declared.identifier.FoundIdentifier.{FoundIdentifier}
use Rattle.asn1_x690_fields.specs.Outcomes.{rest, fault_of, IsIdentifier}
use Rattle.asn1_x690_decode.specs.declared.context.Context.{Context}
use Rattle.asn1_x690_decode.specs.Tables.{contents_by}

-- bits were passed
pub record IsMoved (list : List Bool) (old new : State) : Type 0 where
  pub same_end : new.end ≡ old.end
  pub on : old.at ≤ new.at
  pub ends : new.at ≤ new.end
  pub inside : new.end ≤ length list

-- the parts that S says of the bits that were left and of those that are left now were found, and stored
pub record IsFound (ranges : List Range) (S : List Bool → Parts → List Bool → Type 0) (list : List Bool) (old new : State)
    (was now : List Part) : Type 0 where
  pub parts : Parts
  pub are : S (rest list old) parts (rest list new)
  pub grown : IsGrown ranges list was old.count now new.count parts

-- parts were found; or the state names the first fault
abbrev pub Outcome : Context → (List Bool → Parts → List Bool → Type 0) → (List Bool → Fault FaultKind → Type 0) → State → State
    → List Part → List Part → Bool → Type 0
Outcome c S W old new was now true = IsFound c.tables.ranges.now S (bits c.octets.now) old new was now
Outcome c S W old new was now false = W (rest (bits c.octets.now) old) (fault_of new)

-- an encoding at the beginning of the bits
abbrev pub ElementOutcome : Context → Encoding FaultKind Parts → State → State → List Part → List Part → Bool → Type 0
ElementOutcome c A = Outcome c (λ list parts others. Starts A.encodes list parts others) A.fault

-- contents that are all bits
abbrev pub ContentsOutcome : Context → Contents FaultKind Parts → State → State → List Part → List Part → Bool → Type 0
ContentsOutcome c F = Outcome c (λ list parts others. F.fills parts list) F.fault

-- contents that tell a number beside their parts
abbrev pub ToldOutcome : Context → Contents FaultKind (ℕ × Parts) → State → State → List Part → List Part → Option ℕ → Type 0
ToldOutcome c F old new was now (Some n) =
    IsFound c.tables.ranges.now (λ list parts others. F.fills (n, parts) list) (bits c.octets.now) old new was now
ToldOutcome c F old new was now None = F.fault (rest (bits c.octets.now) old) (fault_of new)

-- whole octets are left, as in contents
pub record AreContents (list : List Bool) (s : State) : Type 0 where
  pub ends : s.at ≤ s.end
  pub inside : s.end ≤ length list
  pub whole : (s.end - s.at) % 8 ≡ 0

-- the state is at the contents octets of an element, which begins at an index, and whose identifier was found
pub record IsInside (list : List Bool) (start : ℕ) (found : FoundIdentifier) (id : Identifier) (s : State) : Type 0 where
  pub shown : IsIdentifier found id
  pub encodes : (any_element 0).encodes (id, rest list s) (bits_at list start (s.end - start))

-- contents octets of a type of one part: the part, or the fault before them
abbrev pub IsLeaf : Context → TypeContents FaultKind → ℕ → List Bool → Result Part FaultKind → Type 0
IsLeaf c F node contents (Ok p) = F.contents.fills (piece_of c.tables.ranges.now (bits c.octets.now) p ∷ []) contents
IsLeaf c F node contents (Err kind) = F.contents.fault contents (record { node = node; left = length contents; kind = kind })

-- the same, by the node and the tags of the type
abbrev pub IsLeafOf : Context → ℕ → TypeTags → Node → Span → Result Part FaultKind → Type 0
IsLeafOf c node tags is span r =
    (depth : ℕ) → IsLeaf c (contents_by c depth node tags is) node (bits_of (bits c.octets.now) span) r

-- the contents octets that are left
abbrev pub span_of : State → Span
span_of s = record { at = s.at; count = s.end - s.at }

-- Elements one after another, and those in them, as DER has them without a schema (X.690 8.1).
use Rattle.std.specs.Prelude.{◌≡◌, ℕ, zero, suc, Bool, true, false, List, [], ◌∷◌, ◌++◌}
use Rattle.asn1_schema.specs.Encodings.{Encoding, Contents, within, invalid_contents, any_bits, mapped, repeated}
use Rattle.asn1_x690.specs.declared.fault.FaultKind.{FaultKind}
use Rattle.asn1_x690.specs.declared.fault.FaultKind.TheVariants.{Extra, TooDeep}
use Rattle.asn1_x690.specs.declared.tables.Identifier.{Identifier}
use Rattle.asn1_x690.specs.Elements.{any_element}
use Rattle.asn1_x690_fields.specs.declared.identifier.FoundIdentifier.{FoundIdentifier}
use Rattle.asn1_x690_fields.specs.Outcomes.{IsIdentifier}

-- an element: its identifier, and its contents octets
abbrev pub Element : Type 0
Element = FoundIdentifier × List Bool

-- the elements in an element: those that F says where it is constructed, otherwise none, whatever the octets (8.1.2.5, 8.1.4)
abbrev pub inside : Contents FaultKind (List Element) → Bool → Contents FaultKind (List Element)
inside F false = mapped (λ bits. []) any_bits
inside F true = F

-- an element, then those in it
abbrev pub after_identifier : Contents FaultKind (List Element) → Identifier → Contents FaultKind (List Element)
after_identifier F id = record {
  fills = λ elements contents. (found : FoundIdentifier) × (others : List Element) × IsIdentifier found id
      × (inside F id.is_constructed).fills others contents × (elements ≡ (found, contents) ∷ others);
  fault = (inside F id.is_constructed).fault;
}

abbrev pub element : Contents FaultKind (List Element) → Encoding FaultKind (List Element)
element F = within (any_element 0) (after_identifier F)

-- elements to the end, nested less deep than the depth
abbrev pub levels : ℕ → Contents FaultKind (List Element)
levels zero = invalid_contents TooDeep 0
levels (suc depth) = repeated Extra 0 (λ before. element (levels depth)) [] (λ elements others. elements ++ others)

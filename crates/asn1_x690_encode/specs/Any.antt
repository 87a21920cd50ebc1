-- What a part holds of any element.
use Rattle.std.specs.Prelude.{◌≡◌, ℕ, ⊤, true, List, Bool}
use Rattle.asn1_bits.specs.Bits.{bits}
use Rattle.asn1_schema.specs.declared.part.Part.{Part}
use Rattle.asn1_schema.specs.declared.tables.Node.{Node}
use Rattle.asn1_schema.specs.declared.tables.Range.{Range}
use Rattle.asn1_schema.specs.Pieces.{Piece}
use Rattle.asn1_schema.specs.Pieces as piece
use Rattle.asn1_schema.specs.PiecesOfParts.{bits_of}
use Rattle.asn1_x690.specs.declared.tables.Identifier.{Identifier}
use Rattle.asn1_x690.specs.declared.tables.TypeTags.{TypeTags}
use Rattle.asn1_x690.specs.Elements.{any_element}
use Rattle.asn1_x690_fields.specs.declared.identifier.FoundIdentifier.{FoundIdentifier}
use Rattle.asn1_x690_fields.specs.Outcomes.{IsIdentifier}
use Rattle.asn1_x691_writers.specs.Put.{piece_in, IsInFragments}
use Rattle.asn1_x690_encode.specs.declared.any.AnyPart.{AnyPart}
use Rattle.asn1_x690_encode.specs.declared.any.AnyPart.TheVariants.{Octets, Unknown}
use Rattle.asn1_x690_encode.specs.declared.any.HeldElement.{HeldElement}
use Rattle.asn1_x690_encode.specs.declared.any.HeldElement.TheVariants.{Bits, InFragments, Other}
use Rattle.asn1_x690_encode.specs.declared.context.Context.{Context}
use Rattle.asn1_x690_encode.specs.Encoding.{HasType}

abbrev pub piece_by : AnyPart → List Bool → Piece
piece_by Octets list = piece.Octets list
piece_by Unknown list = piece.Unknown list

-- a value of ANY is of such a type
abbrev pub IsAnyOf : Context → ℕ → AnyPart → Type 0
IsAnyOf c node Octets = (n : Node) × (t : TypeTags) × HasType c node n t × (t.is_any ≡ true)
IsAnyOf c node Unknown = ⊤

abbrev pub IsHeldBy : AnyPart → Part → HeldElement → Type 0
IsHeldBy kind part (Bits s) =
    (ranges : List Range) (source : List ℕ) → piece_in ranges source part ≡ piece_by kind (bits_of (bits source) s)
IsHeldBy kind part InFragments = (kind ≡ Octets) × IsInFragments part
IsHeldBy kind part Other =
    (ranges : List Range) (source : List ℕ) (list : List Bool) → piece_in ranges source part ≡ piece_by kind list → ⊥

-- the bits are no element, or one of this identifier, as it is found
abbrev pub IsNoElement : List Bool → Type 0
IsNoElement list = (node : ℕ) (v : Identifier × List Bool) → (any_element node).encodes v list → ⊥

pub record IsOneElement (found : FoundIdentifier) (list : List Bool) : Type 0 where
  pub id : Identifier
  pub shown : IsIdentifier found id
  pub contents : List Bool
  pub encodes : (node : ℕ) → (any_element node).encodes (id, contents) list

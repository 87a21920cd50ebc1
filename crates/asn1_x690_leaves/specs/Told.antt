-- What contents octets tell of a value: the part that it is, or the fault before them.
use Rattle.std.specs.Prelude.{◌≡◌, ◌+◌, ◌%◌, ◌≤◌, ◌⊎◌, Bool, List, length, Result, Ok, Err}
use Rattle.asn1_schema.specs.declared.part.Part.{Part}
use Rattle.asn1_schema.specs.declared.part.Span.{Span}
use Rattle.asn1_schema.specs.declared.tables.Range.{Range}
use Rattle.asn1_schema.specs.Pieces.{Piece}
use Rattle.asn1_schema.specs.PiecesOfParts.{piece_of}
use Rattle.asn1_x690.specs.declared.fault.FaultKind.{FaultKind}
use Rattle.asn1_x690.specs.declared.fault.FaultKind.TheVariants.{Contents, NotPermitted}

-- octets of a message
pub record AreOctetsOf (list : List Bool) (s : Span) : Type 0 where
  pub inside : s.at + s.count ≤ length list
  pub whole : s.count % 8 ≡ 0

-- P says which contents octets encode which value, and `Yes` which values are permitted
abbrev pub IsTold : {X : Type 0} → (X → List Bool → Type 0) → (X → Type 0) → (X → Piece) → List Range → List Bool → List Bool
    → Result Part FaultKind → Type 0
IsTold P Yes is ranges list contents (Ok p) = (x : _) × P x contents × Yes x × (piece_of ranges list p ≡ is x)
IsTold P Yes is ranges list contents (Err kind) =
    ((kind ≡ Contents) × ((x : _) → P x contents → ⊥)) ⊎ ((kind ≡ NotPermitted) × ((x : _) × P x contents × ¬ (Yes x)))

-- What was stored.
use Rattle.std.specs.Prelude.{◌≡◌, Bool, true, false, List, [], ◌∷◌, Option, Some, None}
use Rattle.asn1_schema.specs.declared.part.Part.{Part}
use Rattle.asn1_schema.specs.declared.tables.Range.{Range}
use Rattle.asn1_schema.specs.PiecesOfParts.{piece_of}
use Rattle.asn1_schema.specs.Room.{IsGrown}
use Rattle.asn1_x691_fields.specs.declared.state.State.{State}

-- a part that was read was stored; without one nothing changed
abbrev pub IsKept : Option Part → State → State → List Part → List Part → Bool → Type 0
IsKept None old new was now r = (r ≡ false) × (new.node ≡ old.node) × (new.kind ≡ old.kind)
IsKept (Some p) old new was now r =
    (r ≡ true) × ((ranges : List Range) (list : List Bool) → IsGrown ranges list was old.count now new.count (piece_of ranges list p ∷ []))

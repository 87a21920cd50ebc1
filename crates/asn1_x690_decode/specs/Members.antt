-- Components one after another, as the beginning of contents.
use Rattle.std.specs.Prelude.{◌≡◌, ℕ, zero, suc, ◌+◌, ◌⊎◌, Bool, true, false, List, [], ◌∷◌, ◌++◌, Option, Some, None, slice_get}
use Rattle.asn1_schema.specs.declared.tables.Presence.{Presence}
use Rattle.asn1_schema.specs.declared.tables.Presence.TheVariants as presence
use Rattle.asn1_schema.specs.declared.tables.Member.{Member}
use Rattle.asn1_schema.specs.declared.tables.Rows.{Rows}
use Rattle.asn1_schema.specs.Encodings.{Fault, Starts, IsAt}
use Rattle.asn1_schema.specs.Pieces.{Absent, Sequence, Parts}
use Rattle.asn1_schema.specs.TypeEncodings.{TypeEncoding}
use Rattle.asn1_x690.specs.declared.fault.FaultKind.{FaultKind}
use Rattle.asn1_x690.specs.declared.fault.FaultKind.TheVariants.{Missing, NoNode}
use Rattle.asn1_x690.specs.declared.tables.FirstTags.{FirstTags}
use Rattle.asn1_x690.specs.Der.{BeginsWith, value_by}
use Rattle.asn1_x690_decode.specs.declared.context.Context.{Context}
use Rattle.asn1_x690_decode.specs.Tables.{tables_of, types, elements}

-- a step says which parts come of the bits that are left, and which bits are left then; there are `count`, from an index on
abbrev pub AreSteps : (ℕ → List Bool → Parts → List Bool → Type 0) → ℕ → ℕ → List Bool → Parts → List Bool → Type 0
AreSteps S zero from list parts others = (parts ≡ []) × (others ≡ list)
AreSteps S (suc count) from list parts others =
    (xs : Parts) × (ys : Parts) × (mid : List Bool) × S from list xs mid × AreSteps S count (from + 1) mid ys others × (parts ≡ xs ++ ys)

-- the first fault is that of one of them
abbrev pub StepsFault : (ℕ → List Bool → Parts → List Bool → Type 0) → (ℕ → List Bool → Fault FaultKind → Type 0) → ℕ → ℕ → List Bool
    → Fault FaultKind → Type 0
StepsFault S W zero from list e = ⊥
StepsFault S W (suc count) from list e =
    W from list e ⊎ ((xs : Parts) × (mid : List Bool) × S from list xs mid × StepsFault S W count (from + 1) mid e)

-- whether a component must be present
abbrev pub is_required : Presence → Bool
is_required presence.Mandatory = true
is_required presence.Optional = false
is_required (presence.Default value) = false

module _ (c : Context) (depth node : ℕ) where
  -- the value of a component
  abbrev pub value_of : Member → TypeEncoding FaultKind
  value_of m = value_by (types c depth) (tables_of c) node m.presence (elements c depth m.node)

  -- a component of a type that must be present; otherwise, by whether the next tag is one of its first tags
  abbrev pub IsComponentBy : Bool → TypeEncoding FaultKind → Option FirstTags → List Bool → Parts → List Bool → Type 0
  IsComponentBy true A first list parts others = ¬ (list ≡ []) × Starts A.encoding.encodes list parts others
  IsComponentBy false A None list parts others = ⊥
  IsComponentBy false A (Some first) list parts others =
      (BeginsWith c.tags.tags.now first list × Starts A.encoding.encodes list parts others)
      ⊎ (¬ (BeginsWith c.tags.tags.now first list) × (parts ≡ Absent ∷ []) × (others ≡ list))

  abbrev pub ComponentFaultBy : Bool → ℕ → TypeEncoding FaultKind → Option FirstTags → List Bool → Fault FaultKind → Type 0
  ComponentFaultBy true inner A first list e =
      ((list ≡ []) × IsAt Missing inner list e) ⊎ (¬ (list ≡ []) × A.encoding.fault list e)
  ComponentFaultBy false inner A None list e = IsAt NoNode node list e
  ComponentFaultBy false inner A (Some first) list e = BeginsWith c.tags.tags.now first list × A.encoding.fault list e

  abbrev pub IsComponentOf : Option Member → Option FirstTags → List Bool → Parts → List Bool → Type 0
  IsComponentOf None first list parts others = ⊥
  IsComponentOf (Some m) first list parts others = IsComponentBy (is_required m.presence) (value_of m) first list parts others

  abbrev pub ComponentFaultOf : Option Member → Option FirstTags → List Bool → Fault FaultKind → Type 0
  ComponentFaultOf None first list e = IsAt NoNode node list e
  ComponentFaultOf (Some m) first list e = ComponentFaultBy (is_required m.presence) m.node (value_of m) first list e

  -- a component of the table of members, by its index
  abbrev pub IsComponent : ℕ → List Bool → Parts → List Bool → Type 0
  IsComponent i = IsComponentOf (slice_get c.tables.members.now i) (slice_get c.tags.members.now i)

  abbrev pub ComponentFault : ℕ → List Bool → Fault FaultKind → Type 0
  ComponentFault i = ComponentFaultOf (slice_get c.tables.members.now i) (slice_get c.tags.members.now i)

  -- the components of an addition group, after the part that tells how many there are
  abbrev pub AreGrouped : Rows → List Bool → Parts → List Bool → Type 0
  AreGrouped rows list parts others =
      (xs : Parts) × AreSteps IsComponent rows.count rows.from list xs others × (parts ≡ Sequence rows.count false ∷ xs)

  abbrev pub GroupedFault : Rows → List Bool → Fault FaultKind → Type 0
  GroupedFault rows = StepsFault IsComponent ComponentFault rows.count rows.from

  -- an addition, each of which may be absent: a value, or the components of an addition group
  abbrev pub IsAdditionBy : Option Rows → Member → FirstTags → List Bool → Parts → List Bool → Type 0
  IsAdditionBy None m first list parts others = IsComponentBy false (value_of m) (Some first) list parts others
  IsAdditionBy (Some rows) m first list parts others =
      (BeginsWith c.tags.tags.now first list × AreGrouped rows list parts others)
      ⊎ (¬ (BeginsWith c.tags.tags.now first list) × (parts ≡ Absent ∷ []) × (others ≡ list))

  abbrev pub AdditionFaultBy : Option Rows → Member → FirstTags → List Bool → Fault FaultKind → Type 0
  AdditionFaultBy None m first list e = ComponentFaultBy false m.node (value_of m) (Some first) list e
  AdditionFaultBy (Some rows) m first list e = BeginsWith c.tags.tags.now first list × GroupedFault rows list e

  abbrev pub IsAdditionOf : Option Member → Option FirstTags → List Bool → Parts → List Bool → Type 0
  IsAdditionOf None first list parts others = ⊥
  IsAdditionOf (Some m) None list parts others = ⊥
  IsAdditionOf (Some m) (Some first) list parts others = IsAdditionBy first.group m first list parts others

  abbrev pub AdditionFaultOf : Option Member → Option FirstTags → List Bool → Fault FaultKind → Type 0
  AdditionFaultOf None first list e = IsAt NoNode node list e
  AdditionFaultOf (Some m) None list e = IsAt NoNode node list e
  AdditionFaultOf (Some m) (Some first) list e = AdditionFaultBy first.group m first list e

  abbrev pub IsAddition : ℕ → List Bool → Parts → List Bool → Type 0
  IsAddition i = IsAdditionOf (slice_get c.tables.members.now i) (slice_get c.tags.members.now i)

  abbrev pub AdditionFault : ℕ → List Bool → Fault FaultKind → Type 0
  AdditionFault i = AdditionFaultOf (slice_get c.tables.members.now i) (slice_get c.tags.members.now i)

  -- a component or an addition
  abbrev pub IsMember : Bool → ℕ → List Bool → Parts → List Bool → Type 0
  IsMember false = IsComponent
  IsMember true = IsAddition

  abbrev pub MemberFault : Bool → ℕ → List Bool → Fault FaultKind → Type 0
  MemberFault false = ComponentFault
  MemberFault true = AdditionFault

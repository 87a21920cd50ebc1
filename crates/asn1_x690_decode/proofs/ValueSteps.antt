-- Steps over the value of a component.
use Rattle.std.proofs.Common.{◌≡◌, ℕ, List, [], ◌∷◌, Bool, true, false, refl, sym, subst, Option, Some, None, inr}
use Rattle.std.specs.Prelude.{slice_get}
use Rattle.asn1_bits.specs.Bits.{bits}
use Rattle.asn1_schema.specs.declared.part.Part.{Part}
use Rattle.asn1_schema.specs.declared.tables.Member.{Member}
use Rattle.asn1_schema.specs.declared.tables.Rows.{Rows}
use Rattle.asn1_schema.specs.declared.tables.Presence.{Presence}
use Rattle.asn1_schema.specs.declared.tables.Presence.TheVariants as presence
use Rattle.asn1_schema.specs.Pieces.{Absent, Sequence, Parts}
use Rattle.asn1_schema.specs.Room.{IsGrown}
use Rattle.asn1_schema.specs.Encodings.{Fault, Starts, IsAt}
use Rattle.asn1_schema.specs.TypeEncodings.{TypeEncoding}
use Rattle.asn1_x690.specs.declared.fault.FaultKind.{FaultKind}
use Rattle.asn1_x690.specs.declared.fault.FaultKind.TheVariants.{DefaultValue}
use Rattle.asn1_x690.specs.declared.tables.FirstTags.{FirstTags}
use Rattle.asn1_x690.specs.Der.{BeginsWith, value_by}
use Rattle.asn1_x691_fields.specs.Defaults.{default_in}
use Rattle.asn1_x690_fields.specs.declared.state.State.{State}
use Rattle.asn1_x690_fields.specs.Outcomes.{rest, fault_of}
use Rattle.asn1_x690_decode.specs.declared.context.Context.{Context}
use Rattle.asn1_x690_decode.specs.Decoding.{Outcome, ElementOutcome}
use Rattle.asn1_x690_decode.specs.Tables.{tables_of, types, elements}
use Rattle.asn1_x690_decode.specs.Members.{AreSteps, is_required, value_of, IsComponentBy, ComponentFaultBy, IsComponentOf, ComponentFaultOf, IsComponent, ComponentFault, AreGrouped, GroupedFault, IsAdditionBy, IsAdditionOf, IsAddition}
use Rattle.asn1_x690_decode.proofs.StateSteps.{grown_over}

module _ (c : Context) (depth node : ℕ) where
  module _ (inner value : ℕ) (list : List Bool) (xs : Parts) (others : List Bool)
      (s : Starts (elements c depth inner).encoding.encodes list xs others) where
    abbrev Value : Presence → TypeEncoding FaultKind
    Value p = value_by (types c depth) (tables_of c) node p (elements c depth inner)

    pub other_value : (p : Presence) → p ≡ presence.Default value → (default_in c.defaults false value 0 ≡ Some s.front → ⊥)
        → Starts (Value p).encoding.encodes list xs others
    other_value p e not =
        subst (λ (q : Presence). Starts (Value q).encoding.encodes list xs others) (sym e)
        (record { front = s.front; encoded = (s.encoded, not); parts = s.parts })

    pub default_fault : (p : Presence) (e : Fault FaultKind) → p ≡ presence.Default value → default_in c.defaults false value 0 ≡ Some s.front
        → IsAt DefaultValue node list e → (Value p).encoding.fault list e
    default_fault p f e is at =
        subst (λ (q : Presence). (Value q).encoding.fault list f) (sym e)
        (inr (
          record {
            value = (xs, s.front);
            rest = others;
            starts = record { front = s.front; encoded = (s.encoded, refl); parts = s.parts };
            holds = is;
          },
          at,
        ))

  pub of_member : (b : Bool) (m : Member) (first : FirstTags) (i : ℕ) → slice_get c.tables.members.now i ≡ Some m
      → slice_get c.tags.members.now i ≡ Some first → is_required m.presence ≡ b → (list : List Bool) (xs : Parts) (others : List Bool)
      → IsComponentBy c depth node b (value_of c depth node m) (Some first) list xs others
      → IsComponent c depth node i list xs others
  of_member b m first i e f r list xs others p =
      subst (λ (o : Option Member). IsComponentOf c depth node o (slice_get c.tags.members.now i) list xs others) (sym e)
      (subst (λ (o : Option FirstTags). IsComponentOf c depth node (Some m) o list xs others) (sym f)
      (subst (λ (k : Bool). IsComponentBy c depth node k (value_of c depth node m) (Some first) list xs others) (sym r) p))

  -- a component that must be present has no default value
  required_value : (p : Presence) → is_required p ≡ true → (A : TypeEncoding FaultKind)
      → value_by (types c depth) (tables_of c) node p A ≡ A
  required_value presence.Mandatory e A = refl
  required_value presence.Optional e A = absurd cc
  required_value (presence.Default value) e A = absurd cc

  module _ (s new : State) (was now : List Part) (some : rest (bits c.octets.now) s ≡ [] → ⊥) where
    present_outcome : (inner : ℕ) (first : Option FirstTags) (A : TypeEncoding FaultKind) (r : Bool)
        → ElementOutcome c A.encoding s new was now r
        → Outcome c (IsComponentBy c depth node true A first) (ComponentFaultBy c depth node true inner A first) s new was now r
    present_outcome inner first A true o = record { parts = o.parts; are = (some, o.are); grown = o.grown }
    present_outcome inner first A false o = inr (some, o)

    pub required_outcome : (m : Member) (i : ℕ) → slice_get c.tables.members.now i ≡ Some m
        → is_required m.presence ≡ true → (r : Bool) → ElementOutcome c (elements c depth m.node).encoding s new was now r
        → Outcome c (IsComponent c depth node i) (ComponentFault c depth node i) s new was now r
    required_outcome m i e q r o =
        let first = slice_get c.tags.members.now i in
        let A = elements c depth m.node in
        subst
        (λ (x : Option Member). Outcome c (IsComponentOf c depth node x first) (ComponentFaultOf c depth node x first)
        s new was now r) (sym e)
        (subst
        (λ (b : Bool). Outcome c (IsComponentBy c depth node b (value_of c depth node m) first)
        (ComponentFaultBy c depth node b m.node (value_of c depth node m) first) s new was now r) (sym q)
        (subst
        (λ (V : TypeEncoding FaultKind). Outcome c (IsComponentBy c depth node true V first) (ComponentFaultBy c depth node true m.node V first)
        s new was now r) (sym (required_value m.presence q A)) (present_outcome m.node first A r o)))

  -- ---- an addition

  absent_by : (rows : Option Rows) (m : Member) (first : FirstTags) (list : List Bool) → (BeginsWith c.tags.tags.now first list → ⊥)
      → IsAdditionBy c depth node rows m first list (Absent ∷ []) list
  absent_by None m first list not = inr (not, refl, refl)
  absent_by (Some rows) m first list not = inr (not, refl, refl)

  pub absent_addition : (m : Member) (first : FirstTags) (i : ℕ) → slice_get c.tables.members.now i ≡ Some m
      → slice_get c.tags.members.now i ≡ Some first → (list : List Bool) → (BeginsWith c.tags.tags.now first list → ⊥)
      → IsAddition c depth node i list (Absent ∷ []) list
  absent_addition m first i e f list not =
      subst (λ (o : Option Member). IsAdditionOf c depth node o (slice_get c.tags.members.now i) list (Absent ∷ []) list) (sym e)
      (subst (λ (o : Option FirstTags). IsAdditionOf c depth node (Some m) o list (Absent ∷ []) list) (sym f)
      (absent_by first.group m first list not))

  -- a part, and the components of a group after it
  pub grouped_outcome : (rows : Rows) (old mid new : State) (was next now : List Part) (r : Bool)
      → rest (bits c.octets.now) mid ≡ rest (bits c.octets.now) old
      → IsGrown c.tables.ranges.now (bits c.octets.now) was old.count next mid.count (Sequence rows.count false ∷ [])
      → Outcome c (AreSteps (IsComponent c depth node) rows.count rows.from) (GroupedFault c depth node rows) mid new next now r
      → Outcome c (AreGrouped c depth node rows) (GroupedFault c depth node rows) old new was now r
  grouped_outcome rows old mid new was next now true same grown o = record {
    parts = Sequence rows.count false ∷ o.parts;
    are = (
      o.parts,
      subst (λ (l : List Bool). AreSteps (IsComponent c depth node) rows.count rows.from l o.parts (rest (bits c.octets.now) new)) same o.are,
      refl,
    );
    grown = grown_over c.tables.ranges.now (bits c.octets.now) was next now old.count mid.count new.count (Sequence rows.count false ∷ []) o.parts
        grown o.grown;
  }
  grouped_outcome rows old mid new was next now false same grown o =
      subst (λ (l : List Bool). GroupedFault c depth node rows l (fault_of new)) same o

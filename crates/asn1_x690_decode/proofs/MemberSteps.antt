-- Steps over components: what is said of the bits after some is said of all.
use Rattle.std.proofs.Common.{◌≡◌, ℕ, zero, suc, ◌+◌, ◌-◌, ◌<◌, List, [], ◌++◌, Bool, false, refl, sym, ◌∙◌, ap, subst, arith, append_assoc, Option, Some, None, inl, inr}
use Rattle.std.specs.Prelude.{slice_get}
use Rattle.std.proofs.lemmas.List.{append-nil}
use Rattle.asn1_schema.specs.declared.part.Part.{Part}
use Rattle.asn1_schema.specs.declared.tables.Range.{Range}
use Rattle.asn1_schema.specs.declared.tables.Member.{Member}
use Rattle.asn1_schema.specs.declared.tables.Rows.{Rows}
use Rattle.asn1_schema.specs.declared.tables.Presence.{Presence}
use Rattle.asn1_schema.specs.declared.tables.Presence.TheVariants as presence
use Rattle.asn1_schema.specs.Pieces.{Parts}
use Rattle.asn1_schema.specs.Room.{IsGrown}
use Rattle.asn1_schema.specs.Encodings.{Fault}
use Rattle.asn1_schema.specs.TypeEncodings.{TypeEncoding}
use Rattle.asn1_x690.specs.declared.fault.FaultKind.{FaultKind}
use Rattle.asn1_x690.specs.declared.tables.Identifier.{Identifier}
use Rattle.asn1_x690.specs.declared.tables.FirstTags.{FirstTags}
use Rattle.asn1_x690.specs.TypeContents.{ToldContents, ByHeader}
use Rattle.asn1_x690.specs.Der as der
use Rattle.asn1_x690_fields.specs.declared.state.State.{State}
use Rattle.asn1_x690_fields.specs.Outcomes.{rest}
use Rattle.asn1_x690_decode.specs.declared.context.Context.{Context}
use Rattle.asn1_x690_decode.specs.Tables.{tables_of, types}
use Rattle.asn1_x690_decode.specs.Members.{AreSteps, StepsFault, is_required, value_of, IsComponentBy, ComponentFaultBy, IsComponentOf, ComponentFaultOf, IsComponent, ComponentFault, IsAdditionBy, AdditionFaultBy, IsAdditionOf, AdditionFaultOf, IsAddition, AdditionFault}
use Rattle.asn1_x690_decode.specs.Decoding.{IsFound}
use Rattle.asn1_x690_decode.proofs.StateSteps.{grown_over, none_grown}

-- ---- steps one after another

module _ (S : ℕ → List Bool → Parts → List Bool → Type 0) (W : ℕ → List Bool → Fault FaultKind → Type 0) (count from : ℕ) where
  -- `i` of them were made
  pub record IsUnderway (ranges : List Range) (list : List Bool) (old now : State) (was is : List Part) (i : ℕ) : Type 0 where
    pub parts : Parts
    pub done : (ys : Parts) (others : List Bool) → AreSteps S (count - i) (from + i) (rest list now) ys others
        → AreSteps S count from (rest list old) (parts ++ ys) others
    pub fault : (e : Fault FaultKind) → StepsFault S W (count - i) (from + i) (rest list now) e
        → StepsFault S W count from (rest list old) e
    pub grown : IsGrown ranges list was old.count is now.count parts

  module _ (ranges : List Range) (list : List Bool) where
    pub begins : (s : State) (was : List Part) → IsUnderway ranges list s s was was 0
    begins s was = record {
      parts = [];
      done = λ ys others p.
          subst (λ (n : ℕ). AreSteps S count n (rest list s) ys others) (omega arith)
          (subst (λ (n : ℕ). AreSteps S n (from + 0) (rest list s) ys others) (omega arith) p);
      fault = λ e w.
          subst (λ (n : ℕ). StepsFault S W count n (rest list s) e) (omega arith)
          (subst (λ (n : ℕ). StepsFault S W n (from + 0) (rest list s) e) (omega arith) w);
      grown = none_grown ranges list was s.count;
    }

    module _ (old now : State) (was is : List Part) (i : ℕ) (u : IsUnderway ranges list old now was is i) where
      left : i < count → suc (count - (i + 1)) ≡ count - i
      left lt = omega (arith, lt)

      next_index : from + (i + 1) ≡ from + i + 1
      next_index = omega arith

      pub fails : i < count → (e : Fault FaultKind) → W (from + i) (rest list now) e → StepsFault S W count from (rest list old) e
      fails lt e w =
          u.fault e (subst (λ (n : ℕ). StepsFault S W n (from + i) (rest list now) e) (left lt) (inl w))

      pub goes_on : i < count → (new : State) (next : List Part)
          → IsFound ranges (S (from + i)) list now new is next → IsUnderway ranges list old new was next (i + 1)
      goes_on lt new next f = record {
        parts = u.parts ++ f.parts;
        done = λ ys others p.
            subst (λ (l : Parts). AreSteps S count from (rest list old) l others) (sym (append_assoc u.parts f.parts ys))
            (u.done (f.parts ++ ys) others
            (subst (λ (n : ℕ). AreSteps S n (from + i) (rest list now) (f.parts ++ ys) others) (left lt) (
              f.parts,
              ys,
              rest list new,
              f.are,
              subst (λ (n : ℕ). AreSteps S (count - (i + 1)) n (rest list new) ys others) next_index p,
              refl,
            )));
        fault = λ e w.
            u.fault e
            (subst (λ (n : ℕ). StepsFault S W n (from + i) (rest list now) e) (left lt)
            (inr (
              f.parts,
              rest list new,
              f.are,
              subst (λ (n : ℕ). StepsFault S W (count - (i + 1)) n (rest list new) e) next_index w,
            )));
        grown = grown_over ranges list was is next old.count now.count new.count u.parts f.parts u.grown f.grown;
      }

      pub ends : i ≡ count → IsFound ranges (AreSteps S count from) list old now was is
      ends e =
          let none : zero ≡ count - i = omega (arith, e) in
          record {
            parts = u.parts ++ [];
            are = u.done [] (rest list now)
                (subst (λ (n : ℕ). AreSteps S n (from + i) (rest list now) [] (rest list now)) none (refl, refl));
            grown = subst (λ (zs : Parts). IsGrown ranges list was old.count is now.count zs) (sym (append-nil u.parts)) u.grown;
          }

-- ---- a component, and what follows it

module _ {X : Type 0} (c : Context) (depth node : ℕ) (F : ToldContents FaultKind X) where
  abbrev E : ℕ → ByHeader FaultKind Identifier
  E = types c depth

  abbrev Component : Presence → Option FirstTags → ℕ → TypeEncoding FaultKind → ToldContents FaultKind X
  Component p first n A = der.component_by E (tables_of c) node p first n A F

  abbrev Optional : Option FirstTags → TypeEncoding FaultKind → ToldContents FaultKind X
  Optional first A = der.optional E (tables_of c) node first A F

  optional_done : (A : TypeEncoding FaultKind) (first : Option FirstTags) (l : List Bool) (xs : Parts) (others : List Bool) (x : X) (ys : Parts)
      → IsComponentBy c depth node false A first l xs others → F.contents.fills (x, ys) others
      → (Optional first A).contents.fills (x, xs ++ ys) l
  optional_done A None l xs others x ys p q = absurd p
  optional_done A (Some first) l xs others x ys (inl p) q =
      inl (
        p.0,
        record {
          value = xs;
          after = (x, ys);
          front = p.1.front;
          rest = others;
          first = p.1.encoded;
          second = q;
          is = refl;
          parts = p.1.parts;
        },
      )
  optional_done A (Some first) l xs others x ys (inr p) q =
      subst (λ (zs : Parts). (Optional (Some first) A).contents.fills (x, zs ++ ys) l) (sym p.1)
      (inr (p.0, ((x, ys), subst (λ (m : List Bool). F.contents.fills (x, ys) m) p.2 q, refl)))

  optional_later : (A : TypeEncoding FaultKind) (first : Option FirstTags) (l : List Bool) (xs : Parts) (others : List Bool) (e : Fault FaultKind)
      → IsComponentBy c depth node false A first l xs others → F.contents.fault others e → (Optional first A).contents.fault l e
  optional_later A None l xs others e p w = absurd p
  optional_later A (Some first) l xs others e (inl p) w =
      inl (p.0, inr (record { value = xs; rest = others; starts = p.1; holds = w }))
  optional_later A (Some first) l xs others e (inr p) w =
      inr (p.0, subst (λ (m : List Bool). F.contents.fault m e) p.2 w)

  optional_fault : (n : ℕ) (A : TypeEncoding FaultKind) (first : Option FirstTags) (l : List Bool) (e : Fault FaultKind)
      → ComponentFaultBy c depth node false n A first l e → (Optional first A).contents.fault l e
  optional_fault n A None l e w = w
  optional_fault n A (Some first) l e w = inl (w.0, inl w.1)

  -- by whether it must be present

  by_done : (p : Presence) (n : ℕ) (A : TypeEncoding FaultKind) (first : Option FirstTags) (l : List Bool) (xs : Parts) (others : List Bool)
      (x : X) (ys : Parts) → IsComponentBy c depth node (is_required p) A first l xs others → F.contents.fills (x, ys) others
      → (Component p first n A).contents.fills (x, xs ++ ys) l
  by_done presence.Mandatory n A first l xs others x ys p q =
      inr (
        p.0,
        record {
          value = xs;
          after = (x, ys);
          front = p.1.front;
          rest = others;
          first = p.1.encoded;
          second = q;
          is = refl;
          parts = p.1.parts;
        },
      )
  by_done presence.Optional n A first l xs others x ys p q = optional_done A first l xs others x ys p q
  by_done (presence.Default v) n A first l xs others x ys p q = optional_done A first l xs others x ys p q

  by_later : (p : Presence) (n : ℕ) (A : TypeEncoding FaultKind) (first : Option FirstTags) (l : List Bool) (xs : Parts) (others : List Bool)
      (e : Fault FaultKind) → IsComponentBy c depth node (is_required p) A first l xs others → F.contents.fault others e
      → (Component p first n A).contents.fault l e
  by_later presence.Mandatory n A first l xs others e p w =
      inr (p.0, inr (record { value = xs; rest = others; starts = p.1; holds = w }))
  by_later presence.Optional n A first l xs others e p w = optional_later A first l xs others e p w
  by_later (presence.Default v) n A first l xs others e p w = optional_later A first l xs others e p w

  by_fault : (p : Presence) (n : ℕ) (A : TypeEncoding FaultKind) (first : Option FirstTags) (l : List Bool) (e : Fault FaultKind)
      → ComponentFaultBy c depth node (is_required p) n A first l e → (Component p first n A).contents.fault l e
  by_fault presence.Mandatory n A first l e (inl w) = inl w
  by_fault presence.Mandatory n A first l e (inr w) = inr (w.0, inl w.1)
  by_fault presence.Optional n A first l e w = optional_fault n A first l e w
  by_fault (presence.Default v) n A first l e w = optional_fault n A first l e w

  -- ---- of the table of members

  one_done : (m : Option Member) (first : Option FirstTags) (l : List Bool) (xs : Parts) (others : List Bool) (x : X) (ys : Parts)
      → IsComponentOf c depth node m first l xs others → F.contents.fills (x, ys) others
      → (der.component E (tables_of c) node m first F).contents.fills (x, xs ++ ys) l
  one_done None first l xs others x ys p q = absurd p
  one_done (Some m) first l xs others x ys p q = by_done m.presence m.node (value_of c depth node m) first l xs others x ys p q

  one_later : (m : Option Member) (first : Option FirstTags) (l : List Bool) (xs : Parts) (others : List Bool) (e : Fault FaultKind)
      → IsComponentOf c depth node m first l xs others → F.contents.fault others e
      → (der.component E (tables_of c) node m first F).contents.fault l e
  one_later None first l xs others e p w = absurd p
  one_later (Some m) first l xs others e p w = by_later m.presence m.node (value_of c depth node m) first l xs others e p w

  one_fault : (m : Option Member) (first : Option FirstTags) (l : List Bool) (e : Fault FaultKind)
      → ComponentFaultOf c depth node m first l e → (der.component E (tables_of c) node m first F).contents.fault l e
  one_fault None first l e w = w
  one_fault (Some m) first l e w = by_fault m.presence m.node (value_of c depth node m) first l e w

-- ---- components one after another, and what follows them

module _ {X : Type 0} (c : Context) (depth node : ℕ) (F : ToldContents FaultKind X) where
  abbrev pub Components : ℕ → ℕ → ToldContents FaultKind X
  Components count from = der.components (types c depth) (tables_of c) node count from F

  abbrev S : ℕ → List Bool → Parts → List Bool → Type 0
  S = IsComponent c depth node

  abbrev W : ℕ → List Bool → Fault FaultKind → Type 0
  W = ComponentFault c depth node

  pub components_done : (count from : ℕ) (l : List Bool) (xs : Parts) (others : List Bool) (x : X) (ys : Parts)
      → AreSteps S count from l xs others → F.contents.fills (x, ys) others → (Components count from).contents.fills (x, xs ++ ys) l
  components_done zero from l xs others x ys p q =
      subst (λ (zs : Parts). F.contents.fills (x, zs ++ ys) l) (sym p.0) (subst (λ (m : List Bool). F.contents.fills (x, ys) m) p.1 q)
  components_done (suc count) from l xs others x ys p q =
      subst (λ (zs : Parts). (Components (suc count) from).contents.fills (x, zs) l)
      (sym (append_assoc p.0 p.1 ys) ∙ ap (λ (zs : Parts). zs ++ ys) (sym p.5))
      (one_done c depth node (Components count (from + 1)) (slice_get c.tables.members.now from) (slice_get c.tags.members.now from)
      l p.0 p.2 x (p.1 ++ ys) p.3 (components_done count (from + 1) p.2 p.1 others x ys p.4 q))

  pub components_later : (count from : ℕ) (l : List Bool) (xs : Parts) (others : List Bool) (e : Fault FaultKind)
      → AreSteps S count from l xs others → F.contents.fault others e → (Components count from).contents.fault l e
  components_later zero from l xs others e p w = subst (λ (m : List Bool). F.contents.fault m e) p.1 w
  components_later (suc count) from l xs others e p w =
      one_later c depth node (Components count (from + 1)) (slice_get c.tables.members.now from) (slice_get c.tags.members.now from)
      l p.0 p.2 e p.3 (components_later count (from + 1) p.2 p.1 others e p.4 w)

  pub components_fault : (count from : ℕ) (l : List Bool) (e : Fault FaultKind) → StepsFault S W count from l e
      → (Components count from).contents.fault l e
  components_fault zero from l e w = absurd w
  components_fault (suc count) from l e (inl w) =
      one_fault c depth node (Components count (from + 1)) (slice_get c.tables.members.now from) (slice_get c.tags.members.now from) l e w
  components_fault (suc count) from l e (inr w) =
      one_later c depth node (Components count (from + 1)) (slice_get c.tables.members.now from) (slice_get c.tags.members.now from)
      l w.0 w.1 e w.2 (components_fault count (from + 1) w.1 e w.3)

-- ---- additions, each of which may be absent

module _ (c : Context) (depth node : ℕ) (F : ToldContents FaultKind ℕ) where
  abbrev Addition : Option Member → Option FirstTags → ToldContents FaultKind ℕ
  Addition m first = der.addition (types c depth) (tables_of c) node m first F

  abbrev AdditionBy : Option Rows → FirstTags → TypeEncoding FaultKind → ToldContents FaultKind ℕ
  AdditionBy rows first A = der.addition_by (types c depth) (tables_of c) node rows first A F

  by_group_done : (rows : Option Rows) (m : Member) (first : FirstTags) (l : List Bool) (xs : Parts) (others : List Bool) (x : ℕ) (ys : Parts)
      → IsAdditionBy c depth node rows m first l xs others → F.contents.fills (x, ys) others
      → (AdditionBy rows first (value_of c depth node m)).contents.fills (x, xs ++ ys) l
  by_group_done None m first l xs others x ys p q = optional_done c depth node F (value_of c depth node m) (Some first) l xs others x ys p q
  by_group_done (Some rows) m first l xs others x ys (inl p) q =
      let g = p.1 in
      subst (λ (zs : Parts). (AdditionBy (Some rows) first (value_of c depth node m)).contents.fills (x, zs ++ ys) l) (sym g.2)
      (inl (
        p.0,
        ((x, g.0 ++ ys), components_done c depth node F rows.count rows.from l g.0 others x ys g.1 q, refl),
      ))
  by_group_done (Some rows) m first l xs others x ys (inr p) q =
      subst (λ (zs : Parts). (AdditionBy (Some rows) first (value_of c depth node m)).contents.fills (x, zs ++ ys) l) (sym p.1)
      (inr (p.0, ((x, ys), subst (λ (k : List Bool). F.contents.fills (x, ys) k) p.2 q, refl)))

  by_group_later : (rows : Option Rows) (m : Member) (first : FirstTags) (l : List Bool) (xs : Parts) (others : List Bool) (e : Fault FaultKind)
      → IsAdditionBy c depth node rows m first l xs others → F.contents.fault others e
      → (AdditionBy rows first (value_of c depth node m)).contents.fault l e
  by_group_later None m first l xs others e p w = optional_later c depth node F (value_of c depth node m) (Some first) l xs others e p w
  by_group_later (Some rows) m first l xs others e (inl p) w =
      let g = p.1 in
      inl (p.0, components_later c depth node F rows.count rows.from l g.0 others e g.1 w)
  by_group_later (Some rows) m first l xs others e (inr p) w =
      inr (p.0, subst (λ (k : List Bool). F.contents.fault k e) p.2 w)

  by_group_fault : (rows : Option Rows) (m : Member) (first : FirstTags) (l : List Bool) (e : Fault FaultKind)
      → AdditionFaultBy c depth node rows m first l e → (AdditionBy rows first (value_of c depth node m)).contents.fault l e
  by_group_fault None m first l e w = optional_fault c depth node F m.node (value_of c depth node m) (Some first) l e w
  by_group_fault (Some rows) m first l e w = inl (w.0, components_fault c depth node F rows.count rows.from l e w.1)

  added_done : (m : Option Member) (first : Option FirstTags) (l : List Bool) (xs : Parts) (others : List Bool) (x : ℕ) (ys : Parts)
      → IsAdditionOf c depth node m first l xs others → F.contents.fills (x, ys) others
      → (Addition m first).contents.fills (x, xs ++ ys) l
  added_done None first l xs others x ys p q = absurd p
  added_done (Some m) None l xs others x ys p q = absurd p
  added_done (Some m) (Some first) l xs others x ys p q = by_group_done first.group m first l xs others x ys p q

  added_later : (m : Option Member) (first : Option FirstTags) (l : List Bool) (xs : Parts) (others : List Bool) (e : Fault FaultKind)
      → IsAdditionOf c depth node m first l xs others → F.contents.fault others e → (Addition m first).contents.fault l e
  added_later None first l xs others e p w = absurd p
  added_later (Some m) None l xs others e p w = absurd p
  added_later (Some m) (Some first) l xs others e p w = by_group_later first.group m first l xs others e p w

  added_fault : (m : Option Member) (first : Option FirstTags) (l : List Bool) (e : Fault FaultKind)
      → AdditionFaultOf c depth node m first l e → (Addition m first).contents.fault l e
  added_fault None first l e w = w
  added_fault (Some m) None l e w = w
  added_fault (Some m) (Some first) l e w = by_group_fault first.group m first l e w

module _ (c : Context) (depth node : ℕ) (F : ToldContents FaultKind ℕ) where
  abbrev Known : ℕ → ℕ → ToldContents FaultKind ℕ
  Known count from = der.additions (types c depth) (tables_of c) node count from F

  abbrev T : ℕ → List Bool → Parts → List Bool → Type 0
  T = IsAddition c depth node

  abbrev V : ℕ → List Bool → Fault FaultKind → Type 0
  V = AdditionFault c depth node

  pub additions_done : (count from : ℕ) (l : List Bool) (xs : Parts) (others : List Bool) (x : ℕ) (ys : Parts)
      → AreSteps T count from l xs others → F.contents.fills (x, ys) others → (Known count from).contents.fills (x, xs ++ ys) l
  additions_done zero from l xs others x ys p q =
      subst (λ (zs : Parts). F.contents.fills (x, zs ++ ys) l) (sym p.0) (subst (λ (m : List Bool). F.contents.fills (x, ys) m) p.1 q)
  additions_done (suc count) from l xs others x ys p q =
      subst (λ (zs : Parts). (Known (suc count) from).contents.fills (x, zs) l)
      (sym (append_assoc p.0 p.1 ys) ∙ ap (λ (zs : Parts). zs ++ ys) (sym p.5))
      (added_done c depth node (Known count (from + 1)) (slice_get c.tables.members.now from) (slice_get c.tags.members.now from)
      l p.0 p.2 x (p.1 ++ ys) p.3 (additions_done count (from + 1) p.2 p.1 others x ys p.4 q))

  pub additions_later : (count from : ℕ) (l : List Bool) (xs : Parts) (others : List Bool) (e : Fault FaultKind)
      → AreSteps T count from l xs others → F.contents.fault others e → (Known count from).contents.fault l e
  additions_later zero from l xs others e p w = subst (λ (m : List Bool). F.contents.fault m e) p.1 w
  additions_later (suc count) from l xs others e p w =
      added_later c depth node (Known count (from + 1)) (slice_get c.tables.members.now from) (slice_get c.tags.members.now from)
      l p.0 p.2 e p.3 (additions_later count (from + 1) p.2 p.1 others e p.4 w)

  pub additions_fault : (count from : ℕ) (l : List Bool) (e : Fault FaultKind) → StepsFault T V count from l e
      → (Known count from).contents.fault l e
  additions_fault zero from l e w = absurd w
  additions_fault (suc count) from l e (inl w) =
      added_fault c depth node (Known count (from + 1)) (slice_get c.tables.members.now from) (slice_get c.tags.members.now from) l e w
  additions_fault (suc count) from l e (inr w) =
      added_later c depth node (Known count (from + 1)) (slice_get c.tables.members.now from) (slice_get c.tags.members.now from)
      l w.0 w.1 e w.2 (additions_fault count (from + 1) w.1 e w.3)

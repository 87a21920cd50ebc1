-- Steps over a SEQUENCE: its components, and its additions.
use Rattle.std.proofs.Common.{◌≡◌, ℕ, ◌+◌, ◌<◌, List, [], ◌∷◌, ◌++◌, Bool, true, false, length, refl, ap, subst, arith, inl, inr}
use Rattle.std.specs.Prelude.{⊤}
use Rattle.std.proofs.lemmas.List.{append-nil}
use Rattle.asn1_bits.specs.Bits.{bits}
use Rattle.asn1_schema.specs.declared.part.Part.{Part}
use Rattle.asn1_schema.specs.declared.tables.Rows.{Rows}
use Rattle.asn1_schema.specs.Pieces.{Sequence, Additions, Unknown, Parts}
use Rattle.asn1_schema.specs.Encodings.{Fault, IsAt}
use Rattle.asn1_x690.specs.declared.fault.FaultKind.{FaultKind}
use Rattle.asn1_x690.specs.declared.fault.FaultKind.TheVariants.{Extra, NotPermitted}
use Rattle.asn1_x690.specs.TypeContents.{TypeContents, ToldContents, nothing_more, told, to_end}
use Rattle.asn1_x690.specs.Der as der
use Rattle.asn1_x690.specs.Der.{always, any_value, element}
use Rattle.asn1_schema.specs.Room.{IsGrown}
use Rattle.asn1_x690_fields.specs.declared.state.State.{State}
use Rattle.asn1_x690_fields.specs.Outcomes.{rest, fault_of}
use Rattle.asn1_x690_decode.specs.declared.context.Context.{Context}
use Rattle.asn1_x690_decode.specs.Tables.{tables_of, types}
use Rattle.asn1_x690_decode.specs.Members.{AreSteps, StepsFault, IsComponent, ComponentFault, IsAddition, AdditionFault}
use Rattle.asn1_x690_decode.specs.Decoding.{ContentsOutcome}
use Rattle.asn1_x690_decode.proofs.StateSteps.{grown_over}
use Rattle.asn1_x690_decode.proofs.MemberSteps.{components_done, components_later, components_fault, additions_done, additions_later, additions_fault}

empty : (l : List Bool) → length l ≡ 0 → l ≡ []
empty [] e = refl
empty (b ∷ l) e = absurd (omega (arith, e))

module _ (c : Context) (depth node : ℕ) (root known : Rows) where
  abbrev pub Whole : Bool → TypeContents FaultKind
  Whole b = der.sequence_by (types c depth) (tables_of c) node b root known

  abbrev pub Added : TypeContents FaultKind
  Added = told Additions always NotPermitted node
      (der.additions (types c depth) (tables_of c) node known.count known.from
      (der.unknown_additions (types c depth) (tables_of c) node known.count))

  abbrev Nothing : ToldContents FaultKind ⊤
  Nothing = nothing_more Extra node

  abbrev Extension : ToldContents FaultKind Bool
  Extension = der.extension (types c depth) (tables_of c) node known

  abbrev Are : List Bool → Parts → List Bool → Type 0
  Are = AreSteps (IsComponent c depth node) root.count root.from

  pub root_fault : (b : Bool) (l : List Bool) (e : Fault FaultKind)
      → StepsFault (IsComponent c depth node) (ComponentFault c depth node) root.count root.from l e
      → (Whole b).contents.fault l e
  root_fault false l e w = inl (components_fault c depth node Nothing root.count root.from l e w)
  root_fault true l e w = inl (components_fault c depth node Extension root.count root.from l e w)

  -- no octet is left after the components of the root
  pub root_done : (b : Bool) (l : List Bool) (xs : Parts) (others : List Bool) → Are l xs others → length others ≡ 0
      → (Whole b).contents.fills (Sequence root.count false ∷ xs) l
  root_done false l xs others p none = (
    (tt {0}, xs),
    (
      subst (λ (ys : Parts). (der.components (types c depth) (tables_of c) node root.count root.from Nothing).contents.fills (tt {0}, ys) l)
          (append-nil xs) (components_done c depth node Nothing root.count root.from l xs others (tt {0}) [] p (refl, empty others none)),
      tt,
    ),
    refl,
  )
  root_done true l xs others p none = (
    (false, xs),
    (
      subst (λ (ys : Parts). (der.components (types c depth) (tables_of c) node root.count root.from Extension).contents.fills (false, ys) l)
          (append-nil xs)
          (components_done c depth node Extension root.count root.from l xs others false [] p (inl (empty others none, (refl, empty others none)))),
      tt,
    ),
    refl,
  )

  pub extra_fault : (l : List Bool) (xs : Parts) (others : List Bool) (e : Fault FaultKind) → Are l xs others → 0 < length others
      → IsAt Extra node others e → (Whole false).contents.fault l e
  extra_fault l xs others e p some at =
      inl (components_later c depth node Nothing root.count root.from l xs others e p
      (inr (record {
        value = (tt {0}, []);
        rest = others;
        starts = record { front = []; encoded = (refl, refl); parts = refl };
        holds = (some, at);
      })))

  some_left : (l : List Bool) → 0 < length l → l ≡ [] → ⊥
  some_left l some e = let n : length l ≡ 0 = ap length e in omega (arith, n, some)

  pub extended_done : (l : List Bool) (xs : Parts) (others : List Bool) (ys : Parts) → Are l xs others → 0 < length others
      → Added.contents.fills ys others → (Whole true).contents.fills (Sequence root.count true ∷ xs ++ ys) l
  extended_done l xs others ys p some q = (
    (true, xs ++ ys),
    (components_done c depth node Extension root.count root.from l xs others true ys p (inr (some_left others some, (ys, q, refl))), tt),
    refl,
  )

  pub extended_fault : (l : List Bool) (xs : Parts) (others : List Bool) (e : Fault FaultKind) → Are l xs others → 0 < length others
      → Added.contents.fault others e → (Whole true).contents.fault l e
  extended_fault l xs others e p some w =
      inl (components_later c depth node Extension root.count root.from l xs others e p (inr (some_left others some, w)))

  -- ---- additions

  abbrev Others : ToldContents FaultKind ℕ
  Others = der.unknown_additions (types c depth) (tables_of c) node known.count

  abbrev Elements : ToldContents FaultKind ℕ
  Elements = to_end Extra node (λ before. element node (any_value Unknown node))

  abbrev AreKnown : List Bool → Parts → List Bool → Type 0
  AreKnown = AreSteps (IsAddition c depth node) known.count known.from

  pub known_fault : (l : List Bool) (e : Fault FaultKind)
      → StepsFault (IsAddition c depth node) (AdditionFault c depth node) known.count known.from l e → Added.contents.fault l e
  known_fault l e w = inl (additions_fault c depth node Others known.count known.from l e w)

  pub unknown_fault : (l : List Bool) (xs : Parts) (others : List Bool) (e : Fault FaultKind) → AreKnown l xs others
      → Elements.contents.fault others e → Added.contents.fault l e
  unknown_fault l xs others e p w = inl (additions_later c depth node Others known.count known.from l xs others e p w)

  pub added_done : (l : List Bool) (xs : Parts) (others : List Bool) (n : ℕ) (ys : Parts) → AreKnown l xs others
      → Elements.contents.fills (n, ys) others → Added.contents.fills (Additions (known.count + n) ∷ xs ++ ys) l
  added_done l xs others n ys p q = (
    (known.count + n, xs ++ ys),
    (additions_done c depth node Others known.count known.from l xs others (known.count + n) ys p ((n, ys), q, refl), tt),
    refl,
  )

-- ---- additions after the root

module _ (c : Context) (depth node : ℕ) (root known : Rows) (old mid new : State) (was next is : List Part) (xs : Parts)
    (p : AreSteps (IsComponent c depth node) root.count root.from (rest (bits c.octets.now) old) xs (rest (bits c.octets.now) mid))
    (some : 0 < length (rest (bits c.octets.now) mid))
    (grown : IsGrown c.tables.ranges.now (bits c.octets.now) was old.count next mid.count (Sequence root.count true ∷ xs)) where
  pub extended_outcome : (r : Bool) → ContentsOutcome c (Added c depth node root known).contents mid new next is r
      → ContentsOutcome c (Whole c depth node root known true).contents old new was is r
  extended_outcome true o = record {
    parts = Sequence root.count true ∷ xs ++ o.parts;
    are = extended_done c depth node root known (rest (bits c.octets.now) old) xs (rest (bits c.octets.now) mid) o.parts p some o.are;
    grown = grown_over c.tables.ranges.now (bits c.octets.now) was next is old.count mid.count new.count (Sequence root.count true ∷ xs)
        o.parts grown o.grown;
  }
  extended_outcome false o =
      extended_fault c depth node root known (rest (bits c.octets.now) old) xs (rest (bits c.octets.now) mid) (fault_of new) p some o

-- Steps over the alternatives of a CHOICE.
use Rattle.std.proofs.Common.{◌≡◌, ℕ, zero, suc, ◌+◌, ◌-◌, ◌<◌, ◌≤◌, List, ◌∷◌, Bool, true, false, sym, subst, arith, Option, Some, None, inl, inr}
use Rattle.std.specs.Prelude.{slice_get, ◌⊎◌}
use Rattle.asn1_schema.specs.declared.misfit.MisfitKind.TheVariants as misfit
use Rattle.asn1_schema.specs.declared.part.Part.{Part}
use Rattle.asn1_schema.specs.declared.tables.Rows.{Rows}
use Rattle.asn1_schema.specs.declared.tables.Member.{Member}
use Rattle.asn1_schema.specs.Pieces.{Chosen, Unknown, Parts}
use Rattle.asn1_schema.specs.Encodings.{Fault, Contents, IsAt, mapped}
use Rattle.asn1_x690.specs.declared.fault.FaultKind.{FaultKind}
use Rattle.asn1_x690.specs.declared.fault.FaultKind.TheVariants.{NoNode, OtherTag}
use Rattle.asn1_x690.specs.declared.tables.FirstTags.{FirstTags}
use Rattle.asn1_x690.specs.declared.tables.Identifier.{Identifier}
use Rattle.asn1_x690.specs.TypeContents.{ByHeader, invalid_header}
use Rattle.asn1_x690.specs.Der as der
use Rattle.asn1_x690_decode.specs.declared.context.Context.{Context}
use Rattle.asn1_x690_decode.specs.Tables.{tables_of, types}
use Rattle.asn1_x690_fields.specs.declared.state.State.{State}
use Rattle.asn1_x690_decode.specs.Decoding.{ContentsOutcome}
use Rattle.asn1_x690_decode.specs.Alternatives.{IsIt, IsOther, AreOthers}
use Rattle.asn1_x690_decode.proofs.StateSteps.{Implies, implies_over, implied}

module _ (c : Context) (depth node : ℕ) (id : Identifier) where
  abbrev E : ℕ → ByHeader FaultKind Identifier
  E = types c depth

  abbrev One : Option Member → Option FirstTags → ℕ → ByHeader FaultKind Identifier → Contents FaultKind Parts
  One m first i B = (der.alternative E (tables_of c) node m first i B).contents id

  module _ (B : ByHeader FaultKind Identifier) where
    abbrev pub Alternatives : ℕ → ℕ → ℕ → Contents FaultKind Parts
    Alternatives count i from = (der.alternatives E (tables_of c) node count i from B).contents id

  -- an alternative whose tags are others
  other : (i from : ℕ) (B : ByHeader FaultKind Identifier) → IsOther c id from
      → Implies (One (slice_get c.tables.members.now from) (slice_get c.tags.members.now from) i B) (B.contents id)
  other i from B o =
      subst (λ (m : Option Member). Implies (One m (slice_get c.tags.members.now from) i B) (B.contents id)) (sym o.is_member)
      (subst (λ (f : Option FirstTags). Implies (One (Some o.member) f i B) (B.contents id)) (sym o.is_first)
      (record { fills = λ xs l p. inr (o.has_not, p); fault = λ l e w. inr (o.has_not, w) }))

  -- an alternative that has the tag
  it : (i from inner : ℕ) (B : ByHeader FaultKind Identifier) → IsIt c id from inner
      → Implies (One (slice_get c.tables.members.now from) (slice_get c.tags.members.now from) i B)
      (mapped (λ (ts : Parts). Chosen i ∷ ts) ((E inner).contents id))
  it i from inner B o =
      subst (λ (n : ℕ). Implies (One (slice_get c.tables.members.now from) (slice_get c.tags.members.now from) i B)
      (mapped (λ (ts : Parts). Chosen i ∷ ts) ((E n).contents id))) o.type
      (subst (λ (m : Option Member). Implies (One m (slice_get c.tags.members.now from) i B)
      (mapped (λ (ts : Parts). Chosen i ∷ ts) ((E o.member.node).contents id))) (sym o.is_member)
      (subst (λ (f : Option FirstTags). Implies (One (Some o.member) f i B)
      (mapped (λ (ts : Parts). Chosen i ∷ ts) ((E o.member.node).contents id))) (sym o.is_first)
      (record { fills = λ xs l p. inl (o.has_tag, p); fault = λ l e w. inl (o.has_tag, w) })))

  missing : (i from : ℕ) (B : ByHeader FaultKind Identifier) (m : Option Member) (first : Option FirstTags) → (m ≡ None) ⊎ (first ≡ None)
      → (l : List Bool) (e : Fault FaultKind) → IsAt NoNode node l e → (One m first i B).fault l e
  missing i from B None first p l e w = w
  missing i from B (Some m) None p l e w = w
  missing i from B (Some m) (Some first) (inl p) l e w = absurd cc
  missing i from B (Some m) (Some first) (inr p) l e w = absurd cc

  module _ (B : ByHeader FaultKind Identifier) where
    abbrev From : ℕ → ℕ → ℕ → ByHeader FaultKind Identifier
    From count i from = der.alternatives E (tables_of c) node count i from B

    others_after : (from k : ℕ) → AreOthers c id from (suc k) → AreOthers c id (from + 1) k
    others_after from k o i lt =
        let e : from + (i + 1) ≡ from + 1 + i = omega arith in
        subst (λ (n : ℕ). IsOther c id n) e (o (i + 1) (omega (arith, lt)))

    -- `k` alternatives are others
    pub passed : (count i from k : ℕ) → k ≤ count → AreOthers c id from k
        → Implies (Alternatives B count i from) (Alternatives B (count - k) (i + k) (from + k))
    passed count i from zero le o =
        subst (λ (n : ℕ). Implies (Alternatives B count i from) (Alternatives B n (i + 0) (from + 0))) (omega arith)
        (subst (λ (n : ℕ). Implies (Alternatives B count i from) (Alternatives B count n (from + 0))) (omega arith)
        (subst (λ (n : ℕ). Implies (Alternatives B count i from) (Alternatives B count i n)) (omega arith)
        (record { fills = λ xs l p. p; fault = λ l e w. w })))
    passed zero i from (suc k) le o = absurd (omega (arith, le))
    passed (suc count) i from (suc k) le o =
        let first : IsOther c id from = (let e : from + 0 ≡ from = omega arith in subst (λ (n : ℕ). IsOther c id n) e (o 0 (omega arith))) in
        let few : k ≤ count = omega (arith, le) in
        let a : count - k ≡ suc count - suc k = omega arith in
        let b : i + 1 + k ≡ i + suc k = omega arith in
        let d : from + 1 + k ≡ from + suc k = omega arith in
        implies_over (Alternatives B (suc count) i from) (Alternatives B count (i + 1) (from + 1))
        (Alternatives B (suc count - suc k) (i + suc k) (from + suc k)) (other i from (From count (i + 1) (from + 1)) first)
        (subst (λ (n : ℕ). Implies (Alternatives B count (i + 1) (from + 1)) (Alternatives B n (i + suc k) (from + suc k))) a
        (subst (λ (n : ℕ). Implies (Alternatives B count (i + 1) (from + 1)) (Alternatives B (count - k) n (from + suc k))) b
        (subst (λ (n : ℕ). Implies (Alternatives B count (i + 1) (from + 1)) (Alternatives B (count - k) (i + 1 + k) n)) d
        (passed count (i + 1) (from + 1) k few (others_after from k o)))))

    -- the alternative is found after `k` others
    pub chosen : (count i from k inner : ℕ) → k < count → AreOthers c id from k → IsIt c id (from + k) inner
        → Implies (Alternatives B count i from) (mapped (λ (ts : Parts). Chosen (i + k) ∷ ts) ((E inner).contents id))
    chosen count i from k inner lt o is =
        let e : suc (count - suc k) ≡ count - k = omega (arith, lt) in
        implies_over (Alternatives B count i from) (Alternatives B (count - k) (i + k) (from + k))
        (mapped (λ (ts : Parts). Chosen (i + k) ∷ ts) ((E inner).contents id)) (passed count i from k (omega (arith, lt)) o)
        (subst (λ (n : ℕ). Implies (Alternatives B n (i + k) (from + k)) (mapped (λ (ts : Parts). Chosen (i + k) ∷ ts) ((E inner).contents id))) e
        (it (i + k) (from + k) inner (From (count - suc k) (i + k + 1) (from + k + 1)) is))

    pub not_in_tables : (count i from k : ℕ) → k < count → AreOthers c id from k
        → (slice_get c.tables.members.now (from + k) ≡ None) ⊎ (slice_get c.tags.members.now (from + k) ≡ None)
        → (l : List Bool) (e : Fault FaultKind) → IsAt NoNode node l e → (Alternatives B count i from).fault l e
    not_in_tables count i from k lt o none l e w =
        let n : suc (count - suc k) ≡ count - k = omega (arith, lt) in
        (passed count i from k (omega (arith, lt)) o).fault l e
        (subst (λ (m : ℕ). (Alternatives B m (i + k) (from + k)).fault l e) n
        (missing (i + k) (from + k) (From (count - suc k) (i + k + 1) (from + k + 1)) (slice_get c.tables.members.now (from + k))
        (slice_get c.tags.members.now (from + k)) none l e w))

    -- none is found
    pub none_found : (count i from : ℕ) → AreOthers c id from count → Implies (Alternatives B count i from) (B.contents id)
    none_found count i from o =
        let e : count - count ≡ 0 = omega arith in
        subst (λ (n : ℕ). Implies (Alternatives B count i from) (Alternatives B n (i + count) (from + count))) e
        (passed count i from count (omega arith) o)

-- ---- the alternatives of the root

module _ (c : Context) (depth node : ℕ) (id : Identifier) (root known : Rows) where
  -- those of the additions, and what follows all alternatives
  abbrev Later : Bool → ByHeader FaultKind Identifier
  Later false = invalid_header OtherTag misfit.OtherPart node
  Later true = der.alternatives (types c depth) (tables_of c) node known.count root.count known.from (der.any_value Unknown node)

  abbrev Choice : Bool → Contents FaultKind Parts
  Choice b = (der.choice_by (types c depth) (tables_of c) node b root known).contents id

  of_root : (b : Bool) → Implies (Choice b) (Alternatives c depth node id (Later b) root.count 0 root.from)
  of_root false = record { fills = λ xs l p. p; fault = λ l e w. w }
  of_root true = record { fills = λ xs l p. p; fault = λ l e w. w }

  pub choice_found : (k inner : ℕ) → k < root.count → AreOthers c id root.from k → IsIt c id (root.from + k) inner → (old new : State)
      → (was is : List Part) (r : Bool)
      → ContentsOutcome c (mapped (λ (ts : Parts). Chosen k ∷ ts) ((types c depth inner).contents id)) old new was is r → (b : Bool)
      → ContentsOutcome c (Choice b) old new was is r
  choice_found k inner lt o it old new was is r out b =
      let e : 0 + k ≡ k = omega arith in
      implied c (Choice b) (mapped (λ (ts : Parts). Chosen k ∷ ts) ((types c depth inner).contents id)) old new was is r
      (implies_over (Choice b) (Alternatives c depth node id (Later b) root.count 0 root.from)
      (mapped (λ (ts : Parts). Chosen k ∷ ts) ((types c depth inner).contents id)) (of_root b)
      (subst (λ (n : ℕ). Implies (Alternatives c depth node id (Later b) root.count 0 root.from)
      (mapped (λ (ts : Parts). Chosen n ∷ ts) ((types c depth inner).contents id))) e
      (chosen c depth node id (Later b) root.count 0 root.from k inner lt o it))) out

  pub choice_missing : (k : ℕ) → k < root.count → AreOthers c id root.from k
      → (slice_get c.tables.members.now (root.from + k) ≡ None) ⊎ (slice_get c.tags.members.now (root.from + k) ≡ None)
      → (l : List Bool) (e : Fault FaultKind) → IsAt NoNode node l e → (b : Bool) → (Choice b).fault l e
  choice_missing k lt o none l e w b = (of_root b).fault l e (not_in_tables c depth node id (Later b) root.count 0 root.from k lt o none l e w)

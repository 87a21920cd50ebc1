-- Steps over the tags of a type.
use Rattle.std.proofs.Common.{◌≡◌, ℕ, suc, ◌-◌, ◌<◌, List, [], ◌∷◌, ◌++◌, Bool, true, false, length, refl, sym, ◌∙◌, ap, subst, arith, Option, Some, inl, inr}
use Rattle.std.specs.Prelude.{slice_get}
use Rattle.std.proofs.lemmas.List.{append-nil}
use Rattle.asn1_bits.specs.Bits.{bits}
use Rattle.asn1_schema.specs.declared.part.Part.{Part}
use Rattle.asn1_schema.specs.declared.tables.Node.{Node}
use Rattle.asn1_schema.specs.declared.tables.Node.TheVariants as type
use Rattle.asn1_schema.specs.Encodings.{Fault, Contents, Starts, IsAt}
use Rattle.asn1_schema.specs.Pieces.{Piece, Octets, Parts}
use Rattle.asn1_schema.specs.PiecesOfParts.{bits_at}
use Rattle.asn1_schema.specs.Room.{IsGrown}
use Rattle.asn1_schema.specs.TypeEncodings.{TypeEncoding}
use Rattle.asn1_x690.specs.declared.fault.FaultKind.{FaultKind}
use Rattle.asn1_x690.specs.declared.fault.FaultKind.TheVariants.{OtherTag, Extra}
use Rattle.asn1_x690.specs.declared.tables.Tag.{Tag}
use Rattle.asn1_x690.specs.declared.tables.TypeTags.{TypeTags}
use Rattle.asn1_x690.specs.declared.tables.Identifier.{Identifier}
use Rattle.asn1_x690.specs.TypeContents.{TypeContents, only_header, only_value}
use Rattle.asn1_x690.specs.Der.{type_of, type_if, element, any_value, rows_of, constructed}
use Rattle.asn1_x690_fields.specs.declared.state.State.{State}
use Rattle.asn1_x690_fields.specs.declared.identifier.FoundIdentifier.{FoundIdentifier}
use Rattle.asn1_x690_fields.specs.Outcomes.{rest}
use Rattle.asn1_x690_decode.specs.declared.context.Context.{Context}
use Rattle.asn1_x690_decode.specs.Tables.{tables_of, types, is_bare, identifier_by, contents_by, bare_by, tagged_if, tagged_by}
use Rattle.asn1_x690_decode.specs.Decoding.{IsInside, ContentsOutcome}
use Rattle.asn1_x690_decode.proofs.StateSteps.{Implies}

-- ---- an identifier that a type has

pub same_identifier : (id : Identifier) (tag : Tag) (b : Bool) → id.tag ≡ tag → id.is_constructed ≡ b → id ≡ identifier_by b tag
same_identifier id tag b p q = ap (λ (t : Tag). record { tag = t; is_constructed = id.is_constructed }) p
    ∙ ap (λ (k : Bool). record { tag = tag; is_constructed = k }) q

pub header_is : (h id : Identifier) (fault : FaultKind) (node : ℕ) (F : TypeContents FaultKind) → id ≡ h
    → Implies ((only_header h fault node F).contents id) F.contents
header_is h id fault node F e = record { fills = λ xs l p. inl (e, p); fault = λ l w q. inl (e, q) }

-- ---- a type by its node

module _ (c : Context) (depth node : ℕ) (t : TypeTags) (id : Identifier) where
  abbrev Implied : Bool → Node → Type 0
  Implied b n =
      Implies ((type_if (types c depth) (tables_of c) node b t n).contents id)
      ((tagged_if c depth node (is_bare b n) b t n (rows_of c.tags.tags.now t.tags)).contents id)

  same : {F : Contents FaultKind Parts} → Implies F F
  same = record { fills = λ xs l p. p; fault = λ l e w. w }

  by_node : (b : Bool) (n : Node) → Implied b n
  by_node true n = same
  by_node false type.Null = same
  by_node false type.Boolean = same
  by_node false (type.IntegerBetween bounds is_extensible) = same
  by_node false (type.IntegerAtLeast bound is_extensible) = same
  by_node false type.Integer = same
  by_node false (type.Enumerated last false known) = same
  by_node false (type.Enumerated last true known) = same
  by_node false (type.BitString size is_extensible has_names) = same
  by_node false (type.OctetString size is_extensible) = same
  by_node false type.ObjectIdentifier = same
  by_node false type.RelativeIdentifier = same
  by_node false type.Utf8String = same
  by_node false type.Real = same
  by_node false (type.Time kind) = same
  by_node false (type.Text size is_extensible alphabet whole) = same
  by_node false (type.Sequence root is_extensible known) = same
  by_node false (type.SequenceOf size is_extensible item) = same
  by_node false (type.SetOf size is_extensible item) = same
  by_node false (type.Choice root is_extensible known) = same
  by_node false (type.Open inner) = same

  pub type_implied : (n : Node) (tags : List Tag) → slice_get c.tables.nodes.now node ≡ Some n → slice_get c.tags.types.now node ≡ Some t
      → tags ≡ rows_of c.tags.tags.now t.tags
      → Implies ((types c (suc depth) node).contents id) ((tagged_by c depth node t n tags).contents id)
  type_implied n tags is of rows =
      subst (λ (o : Option Node). Implies ((type_of (types c depth) (tables_of c) node o (slice_get c.tags.types.now node)).contents id)
      ((tagged_by c depth node t n tags).contents id)) (sym is)
      (subst (λ (o : Option TypeTags). Implies ((type_of (types c depth) (tables_of c) node (Some n) o).contents id)
      ((tagged_by c depth node t n tags).contents id)) (sym of)
      (subst (λ (ts : List Tag). Implies ((type_if (types c depth) (tables_of c) node t.is_any t n).contents id)
      ((tagged_by c depth node t n ts).contents id)) (sym rows) (by_node t.is_any n)))

  -- ---- the first of several tags

  pub in_tag : (b : Bool) (n : Node) (tag : Tag) (others : List Tag) → (b ≡ false → others ≡ [] → ⊥) → id ≡ constructed tag
      → Implies ((tagged_if c depth node b t.is_any t n (tag ∷ others)).contents id)
      (only_value Extra node (element node (tagged_if c depth node b t.is_any t n others))).contents
  in_tag true n tag others not e =
      header_is (constructed tag) id OtherTag node (only_value Extra node (element node (tagged_if c depth node true t.is_any t n others))) e
  in_tag false n tag [] not e = absurd (not refl refl)
  in_tag false n tag (u ∷ us) not e =
      header_is (constructed tag) id OtherTag node (only_value Extra node (element node (tagged_if c depth node false t.is_any t n (u ∷ us)))) e

-- ---- a value, and nothing after it

module _ (extra : FaultKind) (node : ℕ) (A : TypeEncoding FaultKind) (list : List Bool) (old new : State) where
  pub only_done : (xs : Parts) → Starts A.encoding.encodes (rest list old) xs (rest list new) → length (rest list new) ≡ 0
      → (only_value extra node A).contents.fills xs (rest list old)
  only_done xs s none = subst (λ (l : List Bool). A.encoding.encodes xs l) (sym whole) s.encoded
    where
      empty : (l : List Bool) → length l ≡ 0 → l ≡ []
      empty [] e = refl
      empty (b ∷ l) e = absurd (omega (arith, e))

      nil : (l m : List Bool) → m ≡ [] → l ++ m ≡ l
      nil l m e = ap (λ (k : List Bool). l ++ k) e ∙ append-nil l

      whole : rest list old ≡ s.front
      whole = s.parts ∙ nil s.front (rest list new) (empty (rest list new) none)

  pub only_fault : (e : Fault FaultKind) → A.encoding.fault (rest list old) e → (only_value extra node A).contents.fault (rest list old) e
  only_fault e w = inl w

  pub extra_fault : (xs : Parts) (e : Fault FaultKind) → Starts A.encoding.encodes (rest list old) xs (rest list new)
      → 0 < length (rest list new) → IsAt extra node (rest list new) e → (only_value extra node A).contents.fault (rest list old) e
  extra_fault xs e s some at = inr (record { value = xs; rest = rest list new; starts = s; holds = (some, at) })

pub own_outcome : (c : Context) (depth node : ℕ) (t : TypeTags) (of n : Node) → of ≡ n → (old new : State) (was is : List Part) (r : Bool)
    → ContentsOutcome c (contents_by c depth node t n).contents old new was is r
    → ContentsOutcome c (contents_by c depth node t of).contents old new was is r
own_outcome c depth node t of n e old new was is r o =
    subst (λ (m : Node). ContentsOutcome c (contents_by c depth node t m).contents old new was is r) (sym e) o

-- ---- any element, which is kept

module _ (c : Context) (start : ℕ) (found : FoundIdentifier) (id : Identifier) (old new : State) (was now : List Part) (r : Bool) (is_true : r ≡ true)
    (is : IsInside (bits c.octets.now) start found id old) where
  -- all bits of it are a part
  pub kept_outcome : (piece : List Bool → Piece) (node : ℕ)
      → IsGrown c.tables.ranges.now (bits c.octets.now) was old.count now new.count (piece (bits_at (bits c.octets.now) start (old.end - start)) ∷ [])
      → ContentsOutcome c ((any_value piece node).contents id) old new was now r
  kept_outcome piece node grown =
      let whole = bits_at (bits c.octets.now) start (old.end - start) in
      subst (λ (b : Bool). ContentsOutcome c ((any_value piece node).contents id) old new was now b) (sym is_true)
      (record { parts = piece whole ∷ []; are = (whole, is.encodes, refl); grown = grown })

pub kept_bare : (c : Context) (depth node start : ℕ) (found : FoundIdentifier) (id : Identifier) (any : Bool) (n : Node) → any ≡ true
    → (old new : State) (was now : List Part) (r : Bool) → r ≡ true → IsInside (bits c.octets.now) start found id old
    → IsGrown c.tables.ranges.now (bits c.octets.now) was old.count now new.count (Octets (bits_at (bits c.octets.now) start (old.end - start)) ∷ [])
    → ContentsOutcome c ((bare_by c depth node any n).contents id) old new was now r
kept_bare c depth node start found id any n e old new was now r is_true is grown =
    subst (λ (b : Bool). ContentsOutcome c ((bare_by c depth node b n).contents id) old new was now r) (sym e)
    (kept_outcome c start found id old new was now r is_true is Octets node grown)

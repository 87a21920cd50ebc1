-- The parts of each value of a type are one value.
use Rattle.std.proofs.Common.{◌≡◌, ℕ, ℤ, zero, suc, ◌+◌, Bool, true, false, List, [], ◌∷◌, length, refl, ap, arith, inl, inr, Option, Some, None}
use Rattle.std.specs.Prelude.{slice_get, slice_range}
use Rattle.asn1_schema.specs.declared.misfit.MisfitKind.TheVariants as misfit
use Rattle.asn1_schema.specs.declared.tables.Presence.{Presence}
use Rattle.asn1_schema.specs.declared.tables.Presence.TheVariants as presence
use Rattle.asn1_schema.specs.declared.tables.Length.{Length}
use Rattle.asn1_schema.specs.declared.tables.Member.{Member}
use Rattle.asn1_schema.specs.declared.tables.Rows.{Rows}
use Rattle.asn1_schema.specs.declared.tables.Node.{Node}
use Rattle.asn1_schema.specs.declared.tables.Node.TheVariants as type
use Rattle.asn1_schema.specs.Pieces.{Piece, Null, Truth, Integer, Bits, Octets, Text, Sequence, Count, Chosen, Additions, Unknown}
use Rattle.asn1_schema.specs.Reals.{IsReal}
use Rattle.asn1_schema.specs.TypeEncodings.{TypeEncoding}
use Rattle.asn1_schema.specs.Values.{held_by}
use Rattle.asn1_x690.specs.declared.fault.FaultKind.{FaultKind}
use Rattle.asn1_x690.specs.declared.fault.FaultKind.TheVariants.{OtherTag, Missing, Extra, NotPermitted, Contents as OfContents}
use Rattle.asn1_x690.specs.declared.tables.Tag.{Tag}
use Rattle.asn1_x690.specs.declared.tables.Identifier.{Identifier}
use Rattle.asn1_x690.specs.declared.tables.TypeTags.{TypeTags}
use Rattle.asn1_x690.specs.declared.tables.FirstTags.{FirstTags}
use Rattle.asn1_x690.specs.Elements.{any_element}
use Rattle.asn1_x690.specs.TypeContents.{TypeContents, valid, permitted_contents, ToldContents, ByHeader, invalid_header, only_value, told, nothing_more, present, prefixed, to_end}
use Rattle.asn1_x690.specs.Leaves.{IsBoolean, IsNull, IsInteger, IsEnumerated, IsBitString, AreOctets, IsKept, IsObjectIdentifier, IsRelativeIdentifier, IsUtf8Text, width_of, AreCharacters, IsTimeText, HasSize, IsBetween, IsAtLeast, AreTrimmed, AreSized, IsText, IsPermittedValue, leaf_of}
use Rattle.asn1_x690.specs.Der.{Context, rows_of, no_type, no_member, element, any_value, primitive, constructed, around, tagged, HasTag, BeginsWith, always, value_by, optional, component_by, component, components, group, addition_by, addition, additions, unknown_additions, extension, sequence_by, in_order, sequence_of, alternative, alternatives, choice_by, leaf, structured, enumerated, type_by, type_if, type_of, type_at, encoding_at}
use Rattle.asn1_x690.specs.Laws.GivesLaws.{GivesValues, ContentsGive, HeaderGives, ToldGives, After, headed_gives, only_header_gives, any_header_gives, either_gives, leaf_contents_give, told_gives, present_gives, required_gives, perhaps_gives, prefixed_gives, NoValue, nothing_more_gives, AsMany, to_end_gives, Beyond, renamed_gives, OneIf, some_or_none_gives}

-- ---- tags

no_type_gives : (node n : ℕ) → HeaderGives n (no_type node)
no_type_gives node n t parts list p = absurd p

any_value_gives : (is : List Bool → Piece) (node : ℕ) → ((list : List Bool) → held_by (is list) ≡ 0) → HeaderGives 1 (any_value is node)
any_value_gives is node e = any_header_gives (any_element node) is node e

element_gives : (node : ℕ) (B : ByHeader FaultKind Identifier) → HeaderGives 1 B → GivesValues 1 (element node B)
element_gives node B b = headed_gives (any_element node) node 1 B b

around_gives : (node : ℕ) (tags : List Tag) (B : ByHeader FaultKind Identifier) → HeaderGives 1 B → HeaderGives 1 (around node tags B)
around_gives node [] B b = b
around_gives node (t ∷ tags) B b =
    only_header_gives (constructed t) OtherTag node 1 (only_value Extra node (element node (around node tags B)))
    (element_gives node (around node tags B) (around_gives node tags B b))

tagged_gives : (node : ℕ) (id : Tag → Identifier) (tags : List Tag) (F : TypeContents FaultKind) → ContentsGive 1 F
    → HeaderGives 1 (tagged node id tags F)
tagged_gives node id [] F f = no_type_gives node 1
tagged_gives node id (t ∷ []) F f = only_header_gives (id t) OtherTag node 1 F f
tagged_gives node id (t ∷ u ∷ tags) F f =
    only_header_gives (constructed t) OtherTag node 1 (only_value Extra node (element node (tagged node id (u ∷ tags) F)))
    (element_gives node (tagged node id (u ∷ tags) F) (tagged_gives node id (u ∷ tags) F f))

-- ---- all types

module _ (E : ℕ → ByHeader FaultKind Identifier) (e : (n : ℕ) → HeaderGives 1 (E n)) (context : Context) (node : ℕ) where
  value_by_gives : (p : Presence) (A : TypeEncoding FaultKind) → GivesValues 1 A → GivesValues 1 (value_by E context node p A)
  value_by_gives presence.Mandatory A a = a
  value_by_gives presence.Optional A a = a
  value_by_gives (presence.Default value) A a = λ parts list p. a parts list p.0

  member_gives : (m : Member) → GivesValues 1 (value_by E context node m.presence (element m.node (E m.node)))
  member_gives m = value_by_gives m.presence (element m.node (E m.node)) (element_gives m.node (E m.node) (e m.node))

  module _ {X : Type 0} (R : X → ℕ → Type 0) where
    no_member_gives : (n : ℕ) → ToldGives {K = FaultKind} {X = X} R (no_member n)
    no_member_gives n v list p = absurd p

    optional_gives : (count : ℕ) (first : Option FirstTags) (A : TypeEncoding FaultKind) (F : ToldContents FaultKind X) → GivesValues 1 A
        → ToldGives (After count R) F → ToldGives (After (suc count) R) (optional E context node first A F)
    optional_gives count None A F a f = λ v list p. absurd p
    optional_gives count (Some first) A F a f =
        perhaps_gives count R (BeginsWith context.tags first) node (present A F) F (present_gives count R A F a f) f

    component_by_gives : (count : ℕ) (p : Presence) (first : Option FirstTags) (n : ℕ) (A : TypeEncoding FaultKind) (F : ToldContents FaultKind X)
        → GivesValues 1 A → ToldGives (After count R) F → ToldGives (After (suc count) R) (component_by E context node p first n A F)
    component_by_gives count presence.Mandatory first n A F a f =
        required_gives (After (suc count) R) Missing n (present A F) (present_gives count R A F a f)
    component_by_gives count presence.Optional first n A F a f = optional_gives count first A F a f
    component_by_gives count (presence.Default value) first n A F a f = optional_gives count first A F a f

    component_gives : (count : ℕ) (m : Option Member) (first : Option FirstTags) (F : ToldContents FaultKind X) → ToldGives (After count R) F
        → ToldGives (After (suc count) R) (component E context node m first F)
    component_gives count None first F f = λ v list p. absurd p
    component_gives count (Some m) first F f =
        component_by_gives count m.presence first m.node (value_by E context node m.presence (element m.node (E m.node))) F (member_gives m) f

    begins_gives : (F : ToldContents FaultKind X) → ToldGives R F → ToldGives (After 0 R) F
    begins_gives F f v list p = let t = f v list p in (t.0, ((t.0, (t.1.0, omega arith)), t.1.1))

    components_give : (count from : ℕ) (F : ToldContents FaultKind X) → ToldGives R F
        → ToldGives (After count R) (components E context node count from F)
    components_give zero from F f = begins_gives F f
    components_give (suc count) from F f =
        component_gives count (slice_get context.members from) (slice_get context.firsts from) (components E context node count (from + 1) F)
        (components_give count (from + 1) F f)

  -- a group is one value, and holds its components
  group_gives : (count total : ℕ) (first : FirstTags) (rows : Rows) (F : ToldContents FaultKind ℕ)
      → ToldGives (After count (Beyond total)) F → ToldGives (After (suc count) (Beyond total)) (group E context node first rows F)
  group_gives count total first rows F f =
      let G = components E context node rows.count rows.from F in
      let Q = prefixed (Sequence rows.count false) node G in
      perhaps_gives count (Beyond total) (BeginsWith context.tags first) node Q F
      (λ v list p.
      let t = prefixed_gives rows.count (After count (Beyond total)) (Sequence rows.count false) node G refl
      (components_give (After count (Beyond total)) rows.count rows.from F f) v list p in
      let r = t.1.0 in
      let s = r.1.0 in
      (t.0, ((s.0, (s.1.0, omega (arith, r.1.1, s.1.1))), t.1.1)))
      f

  addition_by_gives : (count total : ℕ) (rows : Option Rows) (first : FirstTags) (A : TypeEncoding FaultKind) (F : ToldContents FaultKind ℕ)
      → GivesValues 1 A → ToldGives (After count (Beyond total)) F
      → ToldGives (After (suc count) (Beyond total)) (addition_by E context node rows first A F)
  addition_by_gives count total None first A F a f = optional_gives (Beyond total) count (Some first) A F a f
  addition_by_gives count total (Some rows) first A F a f = group_gives count total first rows F f

  addition_gives : (count total : ℕ) (m : Option Member) (first : Option FirstTags) (F : ToldContents FaultKind ℕ)
      → ToldGives (After count (Beyond total)) F → ToldGives (After (suc count) (Beyond total)) (addition E context node m first F)
  addition_gives count total None first F f = λ v list p. absurd p
  addition_gives count total (Some m) None F f = λ v list p. absurd p
  addition_gives count total (Some m) (Some first) F f =
      addition_by_gives count total first.group first (value_by E context node m.presence (element m.node (E m.node))) F (member_gives m) f

  additions_give : (total count from : ℕ) (F : ToldContents FaultKind ℕ) → ToldGives (Beyond total) F
      → ToldGives (After count (Beyond total)) (additions E context node count from F)
  additions_give total zero from F f = begins_gives (Beyond total) F f
  additions_give total (suc count) from F f =
      addition_gives count total (slice_get context.members from) (slice_get context.firsts from) (additions E context node count (from + 1) F)
      (additions_give total count (from + 1) F f)

  unknown_gives : (count : ℕ) → ToldGives (Beyond count) (unknown_additions E context node count)
  unknown_gives count =
      renamed_gives count node (to_end Extra node (λ before. element node (any_value Unknown node)))
      (to_end_gives Extra node (λ before. element node (any_value Unknown node))
      (λ before. element_gives node (any_value Unknown node) (any_value_gives Unknown node (λ list. refl))))

  extension_gives : (known : Rows) → ToldGives OneIf (extension E context node known)
  extension_gives known =
      some_or_none_gives Extra node
      (told Additions always NotPermitted node (additions E context node known.count known.from (unknown_additions E context node known.count)))
      (told_gives (After known.count (Beyond known.count)) Additions always NotPermitted node
      (additions E context node known.count known.from (unknown_additions E context node known.count)) (λ x n r. omega (arith, r.1.0, r.1.1))
      (additions_give known.count known.count known.from (unknown_additions E context node known.count) (unknown_gives known.count)))

  held_of : (count : ℕ) (b : Bool) (n : ℕ) → After count OneIf b n → n ≡ held_by (Sequence count b)
  held_of count false n r = omega (arith, r.1.0, r.1.1)
  held_of count true n r = omega (arith, r.1.0, r.1.1)

  sequence_by_gives : (b : Bool) (root known : Rows) → ContentsGive 1 (sequence_by E context node b root known)
  sequence_by_gives false root known =
      told_gives (After root.count NoValue) (λ u. Sequence root.count false) always NotPermitted node
      (components E context node root.count root.from (nothing_more Extra node)) (λ u n r. omega (arith, r.1.0, r.1.1))
      (components_give NoValue root.count root.from (nothing_more Extra node) (nothing_more_gives Extra node))
  sequence_by_gives true root known =
      told_gives (After root.count OneIf) (Sequence root.count) always NotPermitted node
      (components E context node root.count root.from (extension E context node known)) (held_of root.count)
      (components_give OneIf root.count root.from (extension E context node known) (extension_gives known))

  in_order_gives : (is_set : Bool) (A : TypeEncoding FaultKind) (before : List Bool) → GivesValues 1 A
      → GivesValues 1 (in_order E context node is_set A before)
  in_order_gives false A before a = a
  in_order_gives true A before a = λ parts list p. a parts list p.0

  sequence_of_gives : (is_set is_extensible : Bool) (size : Length) (item : ℕ) → ContentsGive 1 (sequence_of E context node is_set is_extensible size item)
  sequence_of_gives is_set is_extensible size item =
      told_gives AsMany Count (HasSize is_extensible size) NotPermitted node
      (to_end Extra node (in_order E context node is_set (element item (E item)))) (λ x n r. r)
      (to_end_gives Extra node (in_order E context node is_set (element item (E item)))
      (λ before. in_order_gives is_set (element item (E item)) before (element_gives item (E item) (e item))))

  alternative_gives : (m : Option Member) (first : Option FirstTags) (i : ℕ) (B : ByHeader FaultKind Identifier) → HeaderGives 1 B
      → HeaderGives 1 (alternative E context node m first i B)
  alternative_gives None first i B b = no_type_gives node 1
  alternative_gives (Some m) None i B b = no_type_gives node 1
  alternative_gives (Some m) (Some first) i B b = either_gives (HasTag context.tags first) node (Chosen i) (E m.node) B refl (e m.node) b

  alternatives_give : (count i from : ℕ) (B : ByHeader FaultKind Identifier) → HeaderGives 1 B
      → HeaderGives 1 (alternatives E context node count i from B)
  alternatives_give zero i from B b = b
  alternatives_give (suc count) i from B b =
      alternative_gives (slice_get context.members from) (slice_get context.firsts from) i (alternatives E context node count (i + 1) (from + 1) B)
      (alternatives_give count (i + 1) (from + 1) B b)

  choice_by_gives : (b : Bool) (root known : Rows) → HeaderGives 1 (choice_by E context node b root known)
  choice_by_gives false root known =
      alternatives_give root.count 0 root.from (invalid_header OtherTag misfit.OtherPart node) (λ t parts list p. absurd p)
  choice_by_gives true root known =
      alternatives_give root.count 0 root.from (alternatives E context node known.count root.count known.from (any_value Unknown node))
      (alternatives_give known.count root.count known.from (any_value Unknown node) (any_value_gives Unknown node (λ list. refl)))

  leaf_gives : {X : Type 0} (t : TypeTags) (P : X → List Bool → Type 0) (Yes : X → Type 0) (is : X → Piece)
      → ((x : X) (list : List Bool) → P x list → held_by (is x) ≡ 0) → HeaderGives 1 (leaf E context node t P Yes is)
  leaf_gives t P Yes is z =
      tagged_gives node primitive (rows_of context.tags t.tags) (leaf_of P Yes is node)
      (leaf_contents_give (permitted_contents Yes NotPermitted node (valid P OfContents node)) is node (λ x list p. z x list p.0))

  structured_gives : (t : TypeTags) (F : TypeContents FaultKind) → ContentsGive 1 F → HeaderGives 1 (structured E context node t F)
  structured_gives t F f = tagged_gives node constructed (rows_of context.tags t.tags) F f

  value_holds_none : (numbers : List ℤ) (p : Piece) (list : List Bool) → IsEnumerated numbers p list → held_by p ≡ 0
  value_holds_none numbers p list (inl q) = ap held_by q.2
  value_holds_none numbers p list (inr q) = ap held_by q.1

  enumerated_gives : (t : TypeTags) (b : Bool) (last known : ℕ) → HeaderGives 1 (enumerated E context node t b last known)
  enumerated_gives t b last known =
      leaf_gives t (IsEnumerated (slice_range context.numbers t.numbers (t.numbers + (last + 1 + known)))) (IsPermittedValue b) (λ p. p)
      (value_holds_none (slice_range context.numbers t.numbers (t.numbers + (last + 1 + known))))

  type_by_gives : (t : TypeTags) (n : Node) → HeaderGives 1 (type_by E context node t n)
  type_by_gives t type.Null = leaf_gives t IsNull always (λ u. Null) (λ x list p. refl)
  type_by_gives t type.Boolean = leaf_gives t IsBoolean always Truth (λ x list p. refl)
  type_by_gives t (type.IntegerBetween bounds b) = leaf_gives t IsInteger (IsBetween b bounds.least bounds.range) Integer (λ x list p. refl)
  type_by_gives t (type.IntegerAtLeast bound b) = leaf_gives t IsInteger (IsAtLeast b bound.least) Integer (λ x list p. refl)
  type_by_gives t type.Integer = leaf_gives t IsInteger always Integer (λ x list p. refl)
  type_by_gives t (type.Enumerated last false known) = enumerated_gives t false last 0
  type_by_gives t (type.Enumerated last true known) = enumerated_gives t true last known
  type_by_gives t (type.BitString size b has_names) =
      leaf_gives t IsBitString (λ bits. HasSize b size (length bits) × AreTrimmed has_names size bits) Bits (λ x list p. refl)
  type_by_gives t (type.OctetString size b) = leaf_gives t AreOctets (AreSized b size) Octets (λ x list p. refl)
  type_by_gives t type.ObjectIdentifier = leaf_gives t (IsKept IsObjectIdentifier) always Octets (λ x list p. refl)
  type_by_gives t type.RelativeIdentifier = leaf_gives t (IsKept IsRelativeIdentifier) always Octets (λ x list p. refl)
  type_by_gives t type.Utf8String = leaf_gives t (IsKept IsUtf8Text) always Octets (λ x list p. refl)
  type_by_gives t type.Real = leaf_gives t (IsKept IsReal) always Octets (λ x list p. refl)
  type_by_gives t (type.Time kind) = leaf_gives t (IsTimeText kind) always Text (λ x list p. refl)
  type_by_gives t (type.Text size b alphabet whole) =
      leaf_gives t (AreCharacters (width_of t.characters)) (IsText b size (rows_of context.ranges alphabet) (rows_of context.ranges whole)) Text
      (λ x list p. refl)
  type_by_gives t (type.Sequence root b known) = structured_gives t (sequence_by E context node b root known) (sequence_by_gives b root known)
  type_by_gives t (type.SequenceOf size b item) = structured_gives t (sequence_of E context node false b size item) (sequence_of_gives false b size item)
  type_by_gives t (type.SetOf size b item) = structured_gives t (sequence_of E context node true b size item) (sequence_of_gives true b size item)
  type_by_gives t (type.Choice root b known) =
      around_gives node (rows_of context.tags t.tags) (choice_by E context node b root known) (choice_by_gives b root known)
  type_by_gives t (type.Open inner) = around_gives node (rows_of context.tags t.tags) (E inner) (e inner)

  type_if_gives : (b : Bool) (t : TypeTags) (n : Node) → HeaderGives 1 (type_if E context node b t n)
  type_if_gives false t n = type_by_gives t n
  type_if_gives true t n = around_gives node (rows_of context.tags t.tags) (any_value Octets node) (any_value_gives Octets node (λ list. refl))

  type_of_gives : (n : Option Node) (t : Option TypeTags) → HeaderGives 1 (type_of E context node n t)
  type_of_gives None t = no_type_gives node 1
  type_of_gives (Some n) None = no_type_gives node 1
  type_of_gives (Some n) (Some t) = type_if_gives t.is_any t n

pub type_at_gives : (nodes : List Node) (context : Context) (depth node : ℕ) → HeaderGives 1 (type_at nodes context depth node)
type_at_gives nodes context zero node = λ t parts list p. absurd p
type_at_gives nodes context (suc depth) node =
    type_of_gives (type_at nodes context depth) (λ n. type_at_gives nodes context depth n) context node (slice_get nodes node)
    (slice_get context.types node)

pub value_at : (nodes : List Node) (context : Context) (depth node : ℕ) → GivesValues 1 (encoding_at nodes context depth node)
value_at nodes context depth node = element_gives node (type_at nodes context depth node) (type_at_gives nodes context depth node)

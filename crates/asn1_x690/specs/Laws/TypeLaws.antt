-- Laws of DER: at every node of every schema.
use Rattle.std.proofs.Common.{◌≡◌, ℕ, ℤ, zero, suc, ◌+◌, ◌<◌, inl, inr, Bool, true, false, List, [], ◌∷◌, length, refl, sym, ◌∙◌, ap, subst, arith, Option, Some, None}
use Rattle.std.specs.Prelude.{slice_get, slice_range}
use Rattle.asn1_schema.specs.declared.tables.Presence.{Presence}
use Rattle.asn1_schema.specs.declared.tables.Presence.TheVariants as presence
use Rattle.asn1_schema.specs.declared.tables.Length.{Length}
use Rattle.asn1_schema.specs.declared.tables.Member.{Member}
use Rattle.asn1_schema.specs.declared.tables.Rows.{Rows}
use Rattle.asn1_schema.specs.declared.tables.Node.{Node}
use Rattle.asn1_schema.specs.declared.tables.Node.TheVariants as type
use Rattle.asn1_schema.specs.declared.misfit.MisfitKind.TheVariants as misfit
use Rattle.asn1_schema.specs.Pieces.{Piece, Parts, Absent, Null, Truth, Integer, Bits, Octets, Text, Sequence, Count, Chosen, Additions, Unknown}
use Rattle.asn1_schema.specs.Order.{IsBefore}
use Rattle.asn1_schema.specs.Reals.{IsReal}
use Rattle.asn1_schema.specs.TypeEncodings.{TypeEncoding}
use Rattle.asn1_schema.specs.Laws.WritingLaws.{IsGood, ArePresent}
use Rattle.asn1_schema.specs.Laws.TypeLaws.{except_type_good, except_type_present}
use Rattle.asn1_x690.specs.declared.fault.FaultKind.{FaultKind}
use Rattle.asn1_x690.specs.declared.fault.FaultKind.TheVariants.{OtherTag, Missing, Extra, NotPermitted, DefaultValue, NotAscending, NoNode, TooDeep}
use Rattle.asn1_x690.specs.declared.tables.Tag.{Tag}
use Rattle.asn1_x690.specs.declared.tables.Identifier.{Identifier}
use Rattle.asn1_x690.specs.declared.tables.CharacterSize.{CharacterSize}
use Rattle.asn1_x690.specs.declared.tables.CharacterSize.TheVariants.{One, Two, Four}
use Rattle.asn1_x690.specs.declared.tables.TypeTags.{TypeTags}
use Rattle.asn1_x690.specs.declared.tables.FirstTags.{FirstTags}
use Rattle.asn1_x690.specs.Elements.{any_element}
use Rattle.asn1_x690.specs.TypeContents.{TypeContents, ToldContents, ByHeader, only_value, present, prefixed, to_end, told}
use Rattle.asn1_x690.specs.Leaves.{IsObjectIdentifier, IsRelativeIdentifier, IsUtf8Text, IsBoolean, IsNull, IsInteger, IsEnumerated, IsBitString, AreOctets, IsKept, width_of, AreCharacters, IsTimeText, HasSize, IsBetween, IsAtLeast, AreTrimmed, AreSized, IsText, IsPermittedValue, leaf_of}
use Rattle.asn1_x690.specs.Der.{Context, rows_of, no_type, element, any_value, primitive, constructed, around, tagged, HasTag, BeginsWith, always, value_by, optional, component_by, component, components, group, addition_by, addition, additions, unknown_additions, extension, sequence_by, in_order, sequence_of, alternative, alternatives, choice_by, leaf, structured, enumerated, type_by, type_if, type_of, type_at, encoding_at}
use Rattle.asn1_x690.specs.Laws.ElementLaws.{any_element_sound, any_element_one, element_some, contents_fewer}
use Rattle.asn1_x690.specs.Laws.HeadedLaws.{IsGoodContents, IsGoodByHeader, headed_good, headed_present, invalid_header_good, only_header_good, any_header_good, NeverBegins, either_good}
use Rattle.asn1_x690.specs.Laws.TypeContentsLaws.{IsGoodTold, only_value_good, told_good}
use Rattle.asn1_x690.specs.Laws.ToldLaws.{TakeBits, invalid_told_good, nothing_more_good, present_good, present_some, present_present, required_good, perhaps_good}
use Rattle.asn1_x690.specs.Laws.GroupLaws.{prefixed_good, prefixed_present}
use Rattle.asn1_x690.specs.Laws.EndLaws.{to_end_good, renamed_good, some_or_none_good}
use Rattle.asn1_x690.specs.Laws.LeafLaws.{OneToOne, leaf_of_good, boolean_one, null_one, integer_one, enumerated_one, enumerated_present, bit_string_one, octets_one, kept_one, characters_one, time_one}

-- a value of which all promises hold, that has a part and takes bits
pub record IsValue (A : TypeEncoding FaultKind) : Type 0 where
  pub good : IsGood A
  pub present : ArePresent A
  pub some : TakeBits A

pub element_value : (node : ℕ) (B : ByHeader FaultKind Identifier) → IsGoodByHeader B → IsValue (element node B)
element_value node B b = record {
  good = headed_good (any_element node) node B (any_element_sound node) (any_element_one node) (contents_fewer node) b;
  present = headed_present (any_element node) node B (any_element_sound node) (any_element_one node) (contents_fewer node) b;
  some = record { some = λ xs l p. let s = element_some node p.0 l p.1 in omega (arith, s) };
}

unknown_alike : (x y : List Bool) → Unknown x ≡ Unknown y → x ≡ y
unknown_alike x y e = cc

octets_alike : (x y : List Bool) → Octets x ≡ Octets y → x ≡ y
octets_alike x y e = cc

any_unknown_good : (node : ℕ) → IsGoodByHeader (any_value Unknown node)
any_unknown_good node = any_header_good (any_element node) Unknown node (any_element_sound node) (any_element_one node) unknown_alike (λ x e. cc)

any_octets_good : (node : ℕ) → IsGoodByHeader (any_value Octets node)
any_octets_good node = any_header_good (any_element node) Octets node (any_element_sound node) (any_element_one node) octets_alike (λ x e. cc)

no_type_good : (node : ℕ) → IsGoodByHeader (no_type node)
no_type_good node = invalid_header_good NoNode misfit.NoNode node

-- ---- tags

inside_good : (node : ℕ) (t : Identifier) (B : ByHeader FaultKind Identifier) → IsGoodByHeader B
    → IsGoodContents (only_value Extra node (element node B))
inside_good node t B b =
    let v = element_value node B b in
    only_value_good Extra node (element node B) v.good v.present

around_good : (node : ℕ) (tags : List Tag) (B : ByHeader FaultKind Identifier) → IsGoodByHeader B → IsGoodByHeader (around node tags B)
around_good node [] B b = b
around_good node (t ∷ tags) B b =
    only_header_good (constructed t) OtherTag node (only_value Extra node (element node (around node tags B)))
    (inside_good node (constructed t) (around node tags B) (around_good node tags B b))

tagged_good : (node : ℕ) (id : Tag → Identifier) (tags : List Tag) (F : TypeContents FaultKind) → IsGoodContents F
    → IsGoodByHeader (tagged node id tags F)
tagged_good node id [] F f = no_type_good node
tagged_good node id (t ∷ []) F f = only_header_good (id t) OtherTag node F f
tagged_good node id (t ∷ u ∷ tags) F f =
    only_header_good (constructed t) OtherTag node (only_value Extra node (element node (tagged node id (u ∷ tags) F)))
    (inside_good node (constructed t) (tagged node id (u ∷ tags) F) (tagged_good node id (u ∷ tags) F f))

-- ---- pieces

sequence_alike : (count : ℕ) (x y : Bool) → Sequence count x ≡ Sequence count y → x ≡ y
sequence_alike count x y e = cc

additions_alike : (x y : ℕ) → Additions x ≡ Additions y → x ≡ y
additions_alike x y e = cc

count_alike : (x y : ℕ) → Count x ≡ Count y → x ≡ y
count_alike x y e = cc

chosen_alike : (x y : ℕ) → Chosen x ≡ Chosen y → x ≡ y
chosen_alike x y e = cc

-- ---- all types

module _ (E : ℕ → ByHeader FaultKind Identifier) (e : (n : ℕ) → IsGoodByHeader (E n)) (context : Context) (node : ℕ) where
  value_good : (p : Presence) (A : TypeEncoding FaultKind) → IsValue A → IsValue (value_by E context node p A)
  value_good presence.Mandatory A a = record { good = a.good; present = a.present; some = a.some }
  value_good presence.Optional A a = record { good = a.good; present = a.present; some = a.some }
  value_good (presence.Default value) A a = record {
    good = except_type_good (λ list. context.defaults value ≡ Some list) DefaultValue misfit.DefaultValue node A a.good;
    present = except_type_present (λ list. context.defaults value ≡ Some list) DefaultValue misfit.DefaultValue node A a.good a.present;
    some = record { some = λ xs l p. a.some.some xs l p.0 };
  }

  member_value : (m : Member) → IsValue (value_by E context node m.presence (element m.node (E m.node)))
  member_value m = value_good m.presence (element m.node (E m.node)) (element_value m.node (E m.node) (e m.node))

  optional_good : {X : Type 0} (first : Option FirstTags) (A : TypeEncoding FaultKind) (F : ToldContents FaultKind X) → IsValue A → IsGoodTold F
      → IsGoodTold (optional E context node first A F)
  optional_good None A F a f = invalid_told_good NoNode misfit.NoNode node
  optional_good (Some first) A F a f =
      perhaps_good (BeginsWith context.tags first) node (present A F) F (present_good A F a.good f) f
      (present_present A F a.good f a.present)

  component_by_good : {X : Type 0} (p : Presence) (first : Option FirstTags) (n : ℕ) (A : TypeEncoding FaultKind) (F : ToldContents FaultKind X)
      → IsValue A → IsGoodTold F → IsGoodTold (component_by E context node p first n A F)
  component_by_good presence.Mandatory first n A F a f =
      required_good Missing n (present A F) (present_good A F a.good f) (present_some A F a.good f a.some)
  component_by_good presence.Optional first n A F a f = optional_good first A F a f
  component_by_good (presence.Default value) first n A F a f = optional_good first A F a f

  component_good : {X : Type 0} (m : Option Member) (first : Option FirstTags) (F : ToldContents FaultKind X) → IsGoodTold F
      → IsGoodTold (component E context node m first F)
  component_good None first F f = invalid_told_good NoNode misfit.NoNode node
  component_good (Some m) first F f =
      component_by_good m.presence first m.node (value_by E context node m.presence (element m.node (E m.node))) F (member_value m) f

  components_good : {X : Type 0} (count from : ℕ) (F : ToldContents FaultKind X) → IsGoodTold F
      → IsGoodTold (components E context node count from F)
  components_good zero from F f = f
  components_good (suc count) from F f =
      component_good (slice_get context.members from) (slice_get context.firsts from) (components E context node count (from + 1) F)
      (components_good count (from + 1) F f)

  group_good : (first : FirstTags) (rows : Rows) (F : ToldContents FaultKind ℕ) → IsGoodTold F → IsGoodTold (group E context node first rows F)
  group_good first rows F f =
      let G = components E context node rows.count rows.from F in
      perhaps_good (BeginsWith context.tags first) node (prefixed (Sequence rows.count false) node G) F
      (prefixed_good (Sequence rows.count false) node G (components_good rows.count rows.from F f)) f
      (prefixed_present (Sequence rows.count false) node G (λ e. cc))

  addition_by_good : (rows : Option Rows) (first : FirstTags) (A : TypeEncoding FaultKind) (F : ToldContents FaultKind ℕ) → IsValue A
      → IsGoodTold F → IsGoodTold (addition_by E context node rows first A F)
  addition_by_good None first A F a f = optional_good (Some first) A F a f
  addition_by_good (Some rows) first A F a f = group_good first rows F f

  addition_good : (m : Option Member) (first : Option FirstTags) (F : ToldContents FaultKind ℕ) → IsGoodTold F
      → IsGoodTold (addition E context node m first F)
  addition_good None first F f = invalid_told_good NoNode misfit.NoNode node
  addition_good (Some m) None F f = invalid_told_good NoNode misfit.NoNode node
  addition_good (Some m) (Some first) F f =
      addition_by_good first.group first (value_by E context node m.presence (element m.node (E m.node))) F (member_value m) f

  additions_good : (count from : ℕ) (F : ToldContents FaultKind ℕ) → IsGoodTold F → IsGoodTold (additions E context node count from F)
  additions_good zero from F f = f
  additions_good (suc count) from F f =
      addition_good (slice_get context.members from) (slice_get context.firsts from) (additions E context node count (from + 1) F)
      (additions_good count (from + 1) F f)

  unknown_good : (count : ℕ) → IsGoodTold (unknown_additions E context node count)
  unknown_good count =
      let v = element_value node (any_value Unknown node) (any_unknown_good node) in
      renamed_good (λ n. count + n) node (to_end Extra node (λ before. element node (any_value Unknown node)))
      (λ x y p. omega (arith, p))
      (to_end_good Extra node (λ before. element node (any_value Unknown node)) (λ before. v.good) (λ before. v.some))

  extension_good : (known : Rows) → IsGoodTold (extension E context node known)
  extension_good known =
      let F = additions E context node known.count known.from (unknown_additions E context node known.count) in
      some_or_none_good Extra node (told Additions always NotPermitted node F)
      (told_good Additions always NotPermitted node F
      (additions_good known.count known.from (unknown_additions E context node known.count) (unknown_good known.count))
      additions_alike (λ x p. cc))

  sequence_good : (b : Bool) (root known : Rows) → IsGoodContents (sequence_by E context node b root known)
  sequence_good false root known =
      told_good (λ u. Sequence root.count false) always NotPermitted node _
      (components_good root.count root.from _ (nothing_more_good Extra node)) (λ x y p. refl) (λ x p. cc)
  sequence_good true root known =
      told_good (Sequence root.count) always NotPermitted node _
      (components_good root.count root.from (extension E context node known) (extension_good known)) (sequence_alike root.count)
      (λ x p. cc)

  in_order_value : (is_set : Bool) (A : TypeEncoding FaultKind) → IsValue A → (before : List Bool)
      → IsValue (in_order E context node is_set A before)
  in_order_value false A a before = record { good = a.good; present = a.present; some = a.some }
  in_order_value true A a before = record {
    good = except_type_good (λ list. IsBefore list before) NotAscending misfit.NotAscending node A a.good;
    present = except_type_present (λ list. IsBefore list before) NotAscending misfit.NotAscending node A a.good a.present;
    some = record { some = λ xs l p. a.some.some xs l p.0 };
  }

  sequence_of_good : (is_set is_extensible : Bool) (size : Length) (item : ℕ)
      → IsGoodContents (sequence_of E context node is_set is_extensible size item)
  sequence_of_good is_set is_extensible size item =
      let A = in_order E context node is_set (element item (E item)) in
      let a = in_order_value is_set (element item (E item)) (element_value item (E item) (e item)) in
      told_good Count (HasSize is_extensible size) NotPermitted node (to_end Extra node A)
      (to_end_good Extra node A (λ before. (a before).good) (λ before. (a before).some)) count_alike (λ x p. cc)

  -- ---- CHOICE

  -- no value begins with an alternative before one
  abbrev NoneBefore : ℕ → ByHeader FaultKind Identifier → Type 0
  NoneBefore i B = (n : ℕ) → n < i → NeverBegins (Chosen n) B

  record IsChoice (i : ℕ) (B : ByHeader FaultKind Identifier) : Type 0 where
    good : IsGoodByHeader B
    later : NoneBefore i B

  alternative_choice : (m : Option Member) (first : Option FirstTags) (i : ℕ) (B : ByHeader FaultKind Identifier) → IsChoice (i + 1) B
      → IsChoice i (alternative E context node m first i B)
  alternative_choice None first i B b = record { good = no_type_good node; later = λ n lt t xs c p. absurd p }
  alternative_choice (Some m) None i B b = record { good = no_type_good node; later = λ n lt t xs c p. absurd p }
  alternative_choice (Some m) (Some first) i B b = record {
    good = either_good (HasTag context.tags first) node (Chosen i) (E m.node) B (e m.node) b.good (λ p. cc)
        (b.later i (omega arith));
    later = later;
  }
    where
      later : NoneBefore i (alternative E context node (Some m) (Some first) i B)
      later n lt t xs c (inl p) others s =
          let u = p.1 in
          let f : Chosen i ≡ Chosen n = head_of (Chosen i) (Chosen n) u.0 others (sym u.2 ∙ s) in
          let same = chosen_alike i n f in
          omega (arith, lt, same)
        where
          head_or : Parts → Piece
          head_or [] = Absent
          head_or (p ∷ ps) = p

          head_of : (p q : Piece) (ps qs : Parts) → p ∷ ps ≡ q ∷ qs → p ≡ q
          head_of p q ps qs e = ap head_or e
      later n lt t xs c (inr p) others s = b.later n (omega (arith, lt)) t xs c p.1 others s

  alternatives_choice : (count i from : ℕ) (B : ByHeader FaultKind Identifier) → IsChoice (i + count) B
      → IsChoice i (alternatives E context node count i from B)
  alternatives_choice zero i from B b = subst (λ (n : ℕ). IsChoice n B) (let z : i + 0 ≡ i = omega arith in z) b
  alternatives_choice (suc count) i from B b =
      alternative_choice (slice_get context.members from) (slice_get context.firsts from) i (alternatives E context node count (i + 1) (from + 1) B)
      (alternatives_choice count (i + 1) (from + 1) B
      (subst (λ (n : ℕ). IsChoice n B) (let z : i + suc count ≡ i + 1 + count = omega arith in z) b))

  choice_good : (b : Bool) (root known : Rows) → IsGoodByHeader (choice_by E context node b root known)
  choice_good false root known =
      (alternatives_choice root.count 0 root.from _
      (record { good = invalid_header_good OtherTag misfit.OtherPart node; later = λ n lt t xs c p. absurd p })).good
  choice_good true root known =
      let B = alternatives E context node known.count root.count known.from (any_value Unknown node) in
      let b = alternatives_choice known.count root.count known.from (any_value Unknown node)
      (record { good = any_unknown_good node; later = other }) in
      (alternatives_choice root.count 0 root.from B
      (subst (λ (n : ℕ). IsChoice n B) (let z : root.count ≡ 0 + root.count = omega arith in z) b)).good
    where
      other : NoneBefore (root.count + known.count) (any_value Unknown node)
      other n lt t xs c p others s = let f : Unknown p.0 ∷ [] ≡ Chosen n ∷ others = sym p.2 ∙ s in cc

  -- ---- all types

  leaf_good : {X : Type 0} (t : TypeTags) (P : X → List Bool → Type 0) (Yes : X → Type 0) (is : X → Piece) → OneToOne P
      → ((x y : X) → is x ≡ is y → x ≡ y) → ((x : X) (c : List Bool) → P x c → is x ≡ Absent → ⊥)
      → IsGoodByHeader (leaf E context node t P Yes is)
  leaf_good t P Yes is one alike not =
      tagged_good node primitive (rows_of context.tags t.tags) (leaf_of P Yes is node) (leaf_of_good P Yes is node one alike not)

  structured_good : (t : TypeTags) (F : TypeContents FaultKind) → IsGoodContents F → IsGoodByHeader (structured E context node t F)
  structured_good t F f = tagged_good node constructed (rows_of context.tags t.tags) F f

  enumerated_good : (t : TypeTags) (b : Bool) (last known : ℕ) → IsGoodByHeader (enumerated E context node t b last known)
  enumerated_good t b last known =
      let numbers : List ℤ = slice_range context.numbers t.numbers (t.numbers + (last + 1 + known)) in
      leaf_good t (IsEnumerated numbers) (IsPermittedValue b) (λ p. p) (enumerated_one numbers) (λ x y p. p)
      (enumerated_present numbers)

  some_bits : (size : CharacterSize) → 0 < width_of size
  some_bits One = omega arith
  some_bits Two = omega arith
  some_bits Four = omega arith

  type_by_good : (t : TypeTags) (n : Node) → IsGoodByHeader (type_by E context node t n)
  type_by_good t type.Null = leaf_good t IsNull always (λ u. Null) null_one (λ x y p. refl) (λ x c p q. cc)
  type_by_good t type.Boolean = leaf_good t IsBoolean always Truth boolean_one (λ x y p. cc) (λ x c p q. cc)
  type_by_good t (type.IntegerBetween bounds is_extensible) =
      leaf_good t IsInteger (IsBetween is_extensible bounds.least bounds.range) Integer integer_one (λ x y p. cc) (λ x c p q. cc)
  type_by_good t (type.IntegerAtLeast bound is_extensible) =
      leaf_good t IsInteger (IsAtLeast is_extensible bound.least) Integer integer_one (λ x y p. cc) (λ x c p q. cc)
  type_by_good t type.Integer = leaf_good t IsInteger always Integer integer_one (λ x y p. cc) (λ x c p q. cc)
  type_by_good t (type.Enumerated last false known) = enumerated_good t false last 0
  type_by_good t (type.Enumerated last true known) = enumerated_good t true last known
  type_by_good t (type.BitString size is_extensible has_names) =
      leaf_good t IsBitString (λ bits. HasSize is_extensible size (length bits) × AreTrimmed has_names size bits) Bits bit_string_one
      (λ x y p. cc) (λ x c p q. cc)
  type_by_good t (type.OctetString size is_extensible) =
      leaf_good t AreOctets (AreSized is_extensible size) Octets octets_one octets_alike (λ x c p q. cc)
  type_by_good t type.ObjectIdentifier =
      leaf_good t (IsKept IsObjectIdentifier) always Octets (kept_one IsObjectIdentifier) octets_alike (λ x c p q. cc)
  type_by_good t type.RelativeIdentifier =
      leaf_good t (IsKept IsRelativeIdentifier) always Octets (kept_one IsRelativeIdentifier) octets_alike (λ x c p q. cc)
  type_by_good t type.Utf8String = leaf_good t (IsKept IsUtf8Text) always Octets (kept_one IsUtf8Text) octets_alike (λ x c p q. cc)
  type_by_good t type.Real = leaf_good t (IsKept IsReal) always Octets (kept_one IsReal) octets_alike (λ x c p q. cc)
  type_by_good t (type.Time kind) = leaf_good t (IsTimeText kind) always Text (time_one kind) (λ x y p. cc) (λ x c p q. cc)
  type_by_good t (type.Text size is_extensible alphabet whole) =
      leaf_good t (AreCharacters (width_of t.characters))
      (IsText is_extensible size (rows_of context.ranges alphabet) (rows_of context.ranges whole)) Text
      (characters_one (width_of t.characters) (some_bits t.characters)) (λ x y p. cc) (λ x c p q. cc)
  type_by_good t (type.Sequence root is_extensible known) =
      structured_good t (sequence_by E context node is_extensible root known) (sequence_good is_extensible root known)
  type_by_good t (type.SequenceOf size is_extensible item) =
      structured_good t (sequence_of E context node false is_extensible size item) (sequence_of_good false is_extensible size item)
  type_by_good t (type.SetOf size is_extensible item) =
      structured_good t (sequence_of E context node true is_extensible size item) (sequence_of_good true is_extensible size item)
  type_by_good t (type.Choice root is_extensible known) =
      around_good node (rows_of context.tags t.tags) (choice_by E context node is_extensible root known) (choice_good is_extensible root known)
  type_by_good t (type.Open inner) = around_good node (rows_of context.tags t.tags) (E inner) (e inner)

  type_if_good : (b : Bool) (t : TypeTags) (n : Node) → IsGoodByHeader (type_if E context node b t n)
  type_if_good false t n = type_by_good t n
  type_if_good true t n = around_good node (rows_of context.tags t.tags) (any_value Octets node) (any_octets_good node)

  type_of_good : (n : Option Node) (t : Option TypeTags) → IsGoodByHeader (type_of E context node n t)
  type_of_good None t = no_type_good node
  type_of_good (Some n) None = no_type_good node
  type_of_good (Some n) (Some t) = type_if_good t.is_any t n

pub type_at_good : (nodes : List Node) (context : Context) (depth node : ℕ) → IsGoodByHeader (type_at nodes context depth node)
type_at_good nodes context zero node = invalid_header_good TooDeep misfit.TooDeep node
type_at_good nodes context (suc depth) node =
    type_of_good (type_at nodes context depth) (λ n. type_at_good nodes context depth n) context node (slice_get nodes node)
    (slice_get context.types node)

pub encoding_at_good : (nodes : List Node) (context : Context) (depth node : ℕ) → IsGood (encoding_at nodes context depth node)
encoding_at_good nodes context depth node = (element_value node (type_at nodes context depth node) (type_at_good nodes context depth node)).good

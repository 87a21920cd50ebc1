-- A value of a type has the same encodings at two positions of one phase: at each position in the UNALIGNED variant, and where as
-- many bits of an octet precede it in the ALIGNED variant.
use Rattle.std.proofs.Common.{◌≡◌, ℤ, ◌<ℤ◌, ◌≤ℤ◌, ℕ, zero, suc, ◌+◌, ◌-◌, ◌<◌, ◌≤◌, nat_lt, inl, inr, Bool, true, false, List, [], ◌∷◌, ◌++◌, sym, ◌∙◌, ap, Option, Some, None}
use Rattle.std.specs.Prelude.{slice_get, slice_range}
use Rattle.asn1_schema.specs.declared.tables.Presence.{Presence}
use Rattle.asn1_schema.specs.declared.tables.Presence.TheVariants as presence
use Rattle.asn1_schema.specs.declared.tables.Length.{Length}
use Rattle.asn1_schema.specs.declared.tables.Length.TheVariants.{AtLeast, Between}
use Rattle.asn1_schema.specs.declared.tables.Range.{Range}
use Rattle.asn1_schema.specs.declared.tables.Member.{Member}
use Rattle.asn1_schema.specs.declared.tables.Rows.{Rows}
use Rattle.asn1_schema.specs.declared.tables.Node.{Node}
use Rattle.asn1_schema.specs.declared.tables.Node.TheVariants as type
use Rattle.asn1_schema.specs.declared.misfit.MisfitKind.TheVariants as misfit
use Rattle.asn1_schema.specs.Pieces.{Piece, Null, Truth, Integer, Enumerated, Bits, Octets, Text, Sequence, Count, Chosen, Additions, Unknown}
use Rattle.asn1_schema.specs.Encodings.{Encoding, constant, invalid, cases, anywhere, permitted}
use Rattle.asn1_schema.specs.Fields.{raw_bits}
use Rattle.asn1_schema.specs.TypeEncodings.{TypeEncoding, AfterHeader, nothing, leaf, part, header, both, several, put, except_type, either_by_bit}
use Rattle.asn1_schema.specs.Laws.PhaseLaws.{Shifts, Agree, TypesAgree, AfterAgree, anywhere_agrees, in_turn_agrees, permitted_agrees, nothing_agrees, both_agree, several_agree, part_agrees, leaf_agrees, put_agrees, header_agrees, except_type_agrees, several_by_bits_agree, end_agrees, mandatory_agrees, optional_agrees, only_where_agrees, either_by_bit_agrees, enclosed_agrees}
use Rattle.asn1_schema.specs.Times.{IsTime}
use Rattle.asn1_schema.specs.Reals.{IsReal}
use Rattle.asn1_x691.specs.declared.fault.FaultKind.{FaultKind}
use Rattle.asn1_x691.specs.declared.fault.FaultKind.TheVariants.{Short, NoNode, NoAddition, BelowLeast, InRoot, NotTrimmed, Contents, DefaultValue, NotAscending, Unsupported}
use Rattle.asn1_x691.specs.Fields.{phase, constrained, length_of, small_length, semi_constrained, small_number, unconstrained}
use Rattle.asn1_x691.specs.Fragments.{all_units, octets}
use Rattle.asn1_x691.specs.Strings.{bit, where_size, IsOfRoot, IsAddedSize, string_of, added_string}
use Rattle.asn1_x691.specs.Characters.{text_of, added_text, IsAddedText}
use Rattle.asn1_x691.specs.Contents.{IsObjectIdentifier, IsRelativeIdentifier, IsUtf8Text}
use Rattle.asn1_x691.specs.OpenTypes.{complete, enclosing, open_type}
use Rattle.asn1_x691.specs.Lists.{list_where}
use Rattle.asn1_x691.specs.Limits.{Limits, bit_fragments, IsOffOctet, IsEmptyFragment}
use Rattle.asn1_x691.specs.Leaves.{by_extension_bit, from_least, IsBetween, IsOutside, IsAddedInteger, value_of_addition, IsAddedValue, AreAddedBits, AreAddedOctets, AreTrimmed, integer_between, integer_at_least, extensible_integer, integer_between_by, integer_at_least_by, enumerated, enumerated_by, string_by, bits_by, bit_string, octet_string, text, contents, visible, time}
use Rattle.asn1_x691.specs.Types.{no_node, alternative_of_addition, IsAddedAlternative, IsMisplaced, optional_count, count_from, IsAddedCount, length_at_least, added_length, any_true, value_by, component_by, component, components, root_of, sequence, known_addition, addition, additions_by_bits, some_additions, extension, IsExtended, sequence_by, in_order, items, fragment_items, items_at_least, sequence_of, added_items, sequence_of_by, alternative_if, choice, added, choice_extension, choice_by, type_of, type_at}
use Rattle.asn1_x691.specs.Laws.PhaseLaws.{shifts, constrained_follows, length_follows, small_length_follows, semi_constrained_follows, unconstrained_follows, small_number_follows, all_units_follow, octets_follow, string_of_follows, added_string_follows, text_of_follows, added_text_follows}

abbrev pub TypeFollows : Bool → (ℕ → TypeEncoding FaultKind) → Type 0
TypeFollows aligned A = TypesAgree (phase aligned) A

module _ (aligned : Bool) (node : ℕ) where
  abbrev S : Shifts (phase aligned)
  S = shifts aligned

  by_bit_follows : (Added : Piece → Type 0) (A B : ℕ → TypeEncoding FaultKind) → TypeFollows aligned A → TypeFollows aligned B
      → TypeFollows aligned (by_extension_bit node Added A B)
  by_bit_follows Added A B a b =
      header_agrees S (bit node) 1 (either_by_bit Added node A B) node (either_by_bit_agrees S Added node A B a b)

  no_node_follows : TypeFollows aligned (no_node node)
  no_node_follows = record { same = λ p q e x list w. w }

  -- ---- types of one part

  between_follows : (least : ℤ) (range : ℕ) → TypeFollows aligned (integer_between aligned node least range)
  between_follows least range =
      leaf_agrees S (constrained aligned range node) (from_least least) node (constrained_follows aligned range node)

  at_least_follows : (least : ℤ) → TypeFollows aligned (integer_at_least aligned node least)
  at_least_follows least =
      leaf_agrees S (semi_constrained aligned node) (from_least least) node (semi_constrained_follows aligned node)

  extensible_follows : (Root Added : ℤ → Type 0) (root : ℕ → TypeEncoding FaultKind) → TypeFollows aligned root
      → TypeFollows aligned (extensible_integer aligned node Root Added root)
  extensible_follows Root Added root r =
      by_bit_follows (IsAddedInteger Added) root (leaf (permitted Added Root InRoot node (unconstrained aligned node)) Integer node) r
      (leaf_agrees S (permitted Added Root InRoot node (unconstrained aligned node)) Integer node
      (permitted_agrees S Added Root InRoot node (unconstrained aligned node) (unconstrained_follows aligned node)))

  between_by_follows : (b : Bool) (least : ℤ) (range : ℕ) → TypeFollows aligned (integer_between_by aligned node b least range)
  between_by_follows false least range = between_follows least range
  between_by_follows true least range =
      extensible_follows (IsBetween least range) (IsOutside least range) (integer_between aligned node least range) (between_follows least range)

  at_least_by_follows : (b : Bool) (least : ℤ) → TypeFollows aligned (integer_at_least_by aligned node b least)
  at_least_by_follows false least = at_least_follows least
  at_least_by_follows true least =
      extensible_follows (λ n. least ≤ℤ n) (λ n. n <ℤ least) (integer_at_least aligned node least) (at_least_follows least)

  root_values_follow : (last : ℕ) → TypeFollows aligned (enumerated aligned node last)
  root_values_follow last = leaf_agrees S (constrained aligned last node) Enumerated node (constrained_follows aligned last node)

  enumerated_by_follows : (b : Bool) (last known : ℕ) → TypeFollows aligned (enumerated_by aligned node b last known)
  enumerated_by_follows false last known = root_values_follow last
  enumerated_by_follows true last known =
      by_bit_follows (IsAddedValue last) (enumerated aligned node last) (leaf (small_number aligned node) (value_of_addition last known) node)
      (root_values_follow last)
      (leaf_agrees S (small_number aligned node) (value_of_addition last known) node (small_number_follows aligned node))

  string_by_follows : {X : Type 0} (b : Bool) (A B : ℕ → Encoding FaultKind X) (is : X → Piece) (Added : Piece → Type 0)
      → Agree (phase aligned) A → Agree (phase aligned) B → TypeFollows aligned (string_by aligned node b A B is Added)
  string_by_follows false A B is Added a b = leaf_agrees S A is node a
  string_by_follows true A B is Added a b =
      by_bit_follows Added (leaf A is node) (leaf B is node) (leaf_agrees S A is node a) (leaf_agrees S B is node b)

  bits_by_follow : (b : Bool) (size : Length) (A : ℕ → Encoding FaultKind (List Bool)) → Agree (phase aligned) A
      → Agree (phase aligned) (bits_by aligned node b size A)
  bits_by_follow false size A a = a
  bits_by_follow true size A a = permitted_agrees S (AreTrimmed size) (λ bits. ¬ (AreTrimmed size bits)) NotTrimmed node A a

  module _ (most : ℕ) where
    bit_string_follows : (size : Length) (b has_names : Bool) → TypeFollows aligned (bit_string most aligned node size b has_names)
    bit_string_follows size b has_names =
        let A = string_of most aligned 1 size node in
        let B = added_string most aligned 1 size node in
        string_by_follows b (bits_by aligned node has_names size A) (bits_by aligned node has_names size B) Bits (AreAddedBits size)
        (bits_by_follow has_names size A (string_of_follows aligned node most 1 size))
        (bits_by_follow has_names size B (added_string_follows aligned node most 1 size))

    octet_string_follows : (size : Length) (b : Bool) → TypeFollows aligned (octet_string most aligned node size b)
    octet_string_follows size b =
        string_by_follows b (string_of most aligned 8 size node) (added_string most aligned 8 size node) Octets (AreAddedOctets size)
        (string_of_follows aligned node most 8 size) (added_string_follows aligned node most 8 size)

    text_follows : (size : Length) (b : Bool) (ranges whole : List Range) → TypeFollows aligned (text most aligned node size b ranges whole)
    text_follows size b ranges whole =
        string_by_follows b (text_of most aligned ranges node size) (added_text most aligned whole node size) Text (IsAddedText size)
        (text_of_follows aligned node ranges most size) (added_text_follows aligned node whole most size)

    contents_follow : (Valid : List Bool → Type 0) → TypeFollows aligned (contents most aligned node Valid)
    contents_follow Valid =
        let A = permitted Valid (λ list. ¬ (Valid list)) Contents node (octets most aligned node) in
        leaf_agrees S A Octets node
        (permitted_agrees S Valid (λ list. ¬ (Valid list)) Contents node (octets most aligned node) (octets_follow aligned node most))

    time_follows : (Valid : List ℕ → Type 0) → TypeFollows aligned (time most aligned node Valid)
    time_follows Valid =
        let A = text_of most aligned visible node (AtLeast 0) in
        leaf_agrees S (permitted Valid (λ text. ¬ (Valid text)) Contents node A) Text node
        (permitted_agrees S Valid (λ text. ¬ (Valid text)) Contents node A (text_of_follows aligned node visible most (AtLeast 0)))

    unknown_follows : TypeFollows aligned (leaf (octets most aligned node) Unknown node)
    unknown_follows = leaf_agrees S (octets most aligned node) Unknown node (octets_follow aligned node most)

    open_type_follows : (A : ℕ → TypeEncoding FaultKind) → TypeFollows aligned (open_type most aligned node A)
    open_type_follows A =
        enclosed_agrees S (enclosing most aligned node) (complete node A) (A 0).misfit node
        (in_turn_agrees S (octets most aligned node) (λ contents u. (u, contents)) (λ contents. anywhere (constant tt))
        (octets_follow aligned node most) (λ contents. anywhere_agrees S {K = FaultKind} (constant tt)))

-- ---- all types

-- an item is misplaced, or not, at each position of a phase
misplaced_follows : (aligned : Bool) (A : ℕ → TypeEncoding FaultKind) → TypeFollows aligned A → (before : List Bool) (p q : ℕ)
    → phase aligned p ≡ phase aligned q → (list : List Bool) → IsMisplaced aligned A before p list → IsMisplaced aligned A before q list
misplaced_follows aligned A a before p q e list w = record {
  first = w.first;
  second = w.second;
  first_bits = w.first_bits;
  second_bits = w.second_bits;
  some = w.some;
  began = w.began;
  ended = w.ended ∙ e;
  first_here = w.first_here;
  second_here = a.same p q e w.second list w.second_here;
  first_alone = w.first_alone;
  second_alone = w.second_alone;
  are_before = w.are_before;
}

off_octet_follows : (sets aligned : Bool) (before : List Bool) (p q : ℕ) → phase aligned p ≡ phase aligned q
    → IsOffOctet sets aligned before p → IsOffOctet sets aligned before q
off_octet_follows false aligned before p q e w = w
off_octet_follows true false before p q e w = w
off_octet_follows true true before p q e (m, inl w) = (m, inl (λ h. w (e ∙ h)))
off_octet_follows true true before p q e (m, inr w) = (m, inr w)

module _ (limits : Limits) (aligned : Bool) (E : ℕ → ℕ → TypeEncoding FaultKind) (e : (n : ℕ) → TypeFollows aligned (E n))
    (members : List Member) (ranges : List Range) (defaults : ℕ → ℕ → Option (List Bool)) (node : ℕ) where
  abbrev Ph : Shifts (phase aligned)
  Ph = shifts aligned

  pub value_by_follows : (p : Presence) (A : ℕ → TypeEncoding FaultKind) → TypeFollows aligned A
      → TypeFollows aligned (value_by limits aligned E members ranges defaults node p A)
  value_by_follows presence.Mandatory A a = record { same = λ p q e x list w. a.same p q e x list w }
  value_by_follows presence.Optional A a = record { same = λ p q e x list w. a.same p q e x list w }
  value_by_follows (presence.Default value) A a =
      except_type_agrees Ph (λ at list. defaults value (phase aligned at) ≡ Some list) DefaultValue misfit.DefaultValue node A
      (λ p q e list h. ap (λ (i : ℕ). defaults value i) (sym e) ∙ h) a

  component_by_follows : (p : Presence) (A : ℕ → TypeEncoding FaultKind) → TypeFollows aligned A
      → (F : ℕ → AfterHeader FaultKind (List Bool)) → AfterAgree (phase aligned) F
      → AfterAgree (phase aligned) (component_by limits aligned E members ranges defaults node p A F)
  component_by_follows presence.Mandatory A a F f = mandatory_agrees Ph A F a f
  component_by_follows presence.Optional A a F f = optional_agrees Ph NoNode node A F a f
  component_by_follows (presence.Default value) A a F f = optional_agrees Ph NoNode node A F a f

  component_follows : (m : Option Member) (F : ℕ → AfterHeader FaultKind (List Bool)) → AfterAgree (phase aligned) F
      → AfterAgree (phase aligned) (component limits aligned E members ranges defaults node m F)
  component_follows None F f = λ bits. record { same = λ p q e x list w. w }
  component_follows (Some m) F f =
      component_by_follows m.presence (value_by limits aligned E members ranges defaults node m.presence (E m.node))
      (value_by_follows m.presence (E m.node) (e m.node)) F f

  components_follow : (count from : ℕ) → AfterAgree (phase aligned) (components limits aligned E members ranges defaults node count from)
  components_follow zero from = end_agrees Ph NoNode node
  components_follow (suc count) from =
      component_follows (slice_get members from) (components limits aligned E members ranges defaults node count (from + 1))
      (components_follow count (from + 1))

  root_follows : (root : Rows) → TypeFollows aligned (root_of limits aligned E members ranges defaults node root)
  root_follows root =
      let width = optional_count members root.count root.from in
      header_agrees Ph (raw_bits width Short node) width (components limits aligned E members ranges defaults node root.count root.from) node
      (components_follow root.count root.from)

  sequence_follows : (root : Rows) → TypeFollows aligned (sequence limits aligned E members ranges defaults node root)
  sequence_follows root =
      put_agrees Ph (Sequence root.count false) (root_of limits aligned E members ranges defaults node root) node (root_follows root)

  known_addition_follows : (m : Option Member) → TypeFollows aligned (known_addition limits aligned E members ranges defaults node m)
  known_addition_follows None = no_node_follows aligned node
  known_addition_follows (Some m) =
      open_type_follows aligned node limits.fragments (value_by limits aligned E members ranges defaults node m.presence (E m.node))

  addition_follows : (known from : ℕ) → TypeFollows aligned (addition limits aligned E members ranges defaults node known from)
  addition_follows zero from = unknown_follows aligned node limits.fragments
  addition_follows (suc known) from = known_addition_follows (slice_get members from)

  additions_follow : (count known from : ℕ)
      → AfterAgree (phase aligned) (additions_by_bits limits aligned E members ranges defaults node count known from)
  additions_follow zero known from = end_agrees Ph NoNode node
  additions_follow (suc count) known from =
      optional_agrees Ph NoNode node (addition limits aligned E members ranges defaults node known from)
      (additions_by_bits limits aligned E members ranges defaults node count (known - 1) (from + 1)) (addition_follows known from)
      (additions_follow count (known - 1) (from + 1))

  extension_follows : (known : Rows) → TypeFollows aligned (extension limits aligned E members ranges defaults node known)
  extension_follows known =
      let after = some_additions limits aligned E members ranges defaults node in
      part_agrees Ph (small_length aligned node) Additions (λ count. header (raw_bits count Short node) count (after count known) node) node
      (small_length_follows aligned node)
      (λ count. header_agrees Ph (raw_bits count Short node) count (after count known) node
      (only_where_agrees Ph any_true NoAddition misfit.NoAddition node
      (additions_by_bits limits aligned E members ranges defaults node count known.count known.from)
      (additions_follow count known.count known.from)))

  sequence_by_follows : (b : Bool) (root known : Rows) → TypeFollows aligned (sequence_by limits aligned E members ranges defaults node b root known)
  sequence_by_follows false root known = sequence_follows root
  sequence_by_follows true root known =
      let R = root_of limits aligned E members ranges defaults node root in
      let X = extension limits aligned E members ranges defaults node known in
      by_bit_follows aligned node (IsExtended limits aligned E members ranges defaults node root)
      (sequence limits aligned E members ranges defaults node root) (put (Sequence root.count true) (both R X) node) (sequence_follows root)
      (put_agrees Ph (Sequence root.count true) (both R X) node (both_agree Ph R X (root_follows root) (extension_follows known)))

  in_order_follows : (item : ℕ) (before : List Bool) → TypeFollows aligned (in_order limits aligned E members ranges defaults node item before)
  in_order_follows item before =
      except_type_agrees Ph (λ at list. IsMisplaced aligned (E item) before at list) NotAscending misfit.NotAscending node
      (λ at. except_type (λ list. IsOffOctet limits.sets_on_octets aligned before at) Unsupported misfit.Unsupported node (E item at))
      (misplaced_follows aligned (E item) (e item) before)
      (except_type_agrees Ph (λ at list. IsOffOctet limits.sets_on_octets aligned before at) Unsupported misfit.Unsupported node (E item)
      (λ p q s list. off_octet_follows limits.sets_on_octets aligned before p q s) (e item))

  items_follow : (is_set : Bool) (item n : ℕ) → TypeFollows aligned (items limits aligned E members ranges defaults node is_set item n)
  items_follow false item n = several_agree Ph (E item) (e item) n
  items_follow true item n =
      several_by_bits_agree Ph (in_order limits aligned E members ranges defaults node item) (λ before. in_order_follows item before) [] n

  fragment_items_follow : (item n : ℕ) → TypeFollows aligned (fragment_items limits aligned E members ranges defaults node item n)
  fragment_items_follow item n =
      except_type_agrees Ph (λ at list. IsEmptyFragment limits.fragments_have_bits n list) Unsupported misfit.Unsupported node
      (several (E item) n) (λ p q s list w. w) (several_agree Ph (E item) (e item) n)

  list_follows : (item : ℕ) (Yes No : ℕ → Type 0) (kind : FaultKind)
      → TypeFollows aligned (list_where (fragment_items limits aligned E members ranges defaults node item) aligned node limits.item_fragments Yes No kind)
  list_follows item Yes No kind =
      let I = λ (n at : ℕ). (fragment_items limits aligned E members ranges defaults node item n at).encoding in
      in_turn_agrees Ph (all_units I (λ xs ys. xs ++ ys) aligned node limits.item_fragments) (λ v ts. ts)
      (λ v. where_size Yes No kind node (v.0, Count v.0 ∷ v.1))
      (all_units_follow aligned node I (λ xs ys. xs ++ ys) (fragment_items_follow item) limits.item_fragments)
      (λ v. anywhere_agrees Ph (cases (Yes v.0) (constant (Count v.0 ∷ v.1)) (No v.0) (invalid kind node)))

  items_at_least_follow : (is_set : Bool) (least item : ℕ)
      → TypeFollows aligned (items_at_least limits aligned E members ranges defaults node is_set least item)
  items_at_least_follow false least item = list_follows item (λ n. least ≤ n) (λ n. n < least) BelowLeast
  items_at_least_follow true least item =
      part_agrees Ph (length_at_least aligned least node) Count
      (λ n. items limits aligned E members ranges defaults node true item n) node
      (permitted_agrees Ph (λ n. least ≤ n) (λ n. n < least) BelowLeast node (length_of aligned node) (length_follows aligned node))
      (λ n. items_follow true item n)

  sequence_of_follows : (is_set : Bool) (size : Length) (item : ℕ)
      → TypeFollows aligned (sequence_of limits aligned E members ranges defaults node is_set size item)
  sequence_of_follows is_set (AtLeast least) item = items_at_least_follow is_set least item
  sequence_of_follows is_set (Between least range) item =
      part_agrees Ph (constrained aligned range node) (count_from least)
      (λ d. items limits aligned E members ranges defaults node is_set item (least + d)) node (constrained_follows aligned range node)
      (λ d. items_follow is_set item (least + d))

  added_items_follow : (is_set : Bool) (size : Length) (item : ℕ)
      → TypeFollows aligned (added_items limits aligned E members ranges defaults node is_set size item)
  added_items_follow false size item = list_follows item (IsAddedSize size) (IsOfRoot size) InRoot
  added_items_follow true size item =
      part_agrees Ph (added_length aligned size node) Count (λ n. items limits aligned E members ranges defaults node true item n) node
      (permitted_agrees Ph (IsAddedSize size) (IsOfRoot size) InRoot node (length_of aligned node) (length_follows aligned node))
      (λ n. items_follow true item n)

  sequence_of_by_follows : (b is_set : Bool) (size : Length) (item : ℕ)
      → TypeFollows aligned (sequence_of_by limits aligned E members ranges defaults node b is_set size item)
  sequence_of_by_follows false is_set size item = sequence_of_follows is_set size item
  sequence_of_by_follows true is_set size item =
      by_bit_follows aligned node (IsAddedCount size) (sequence_of limits aligned E members ranges defaults node is_set size item)
      (added_items limits aligned E members ranges defaults node is_set size item) (sequence_of_follows is_set size item)
      (added_items_follow is_set size item)

  alternative_follows : (b : Bool) (m : Option Member)
      → TypeFollows aligned (alternative_if limits aligned E members ranges defaults node b m)
  alternative_follows false m = no_node_follows aligned node
  alternative_follows true None = no_node_follows aligned node
  alternative_follows true (Some m) = e m.node

  choice_follows : (rows : Rows) → TypeFollows aligned (choice limits aligned E members ranges defaults node rows)
  choice_follows rows =
      part_agrees Ph (constrained aligned (rows.count - 1) node) Chosen
      (λ i. alternative_if limits aligned E members ranges defaults node (nat_lt i rows.count) (slice_get members (rows.from + i))) node
      (constrained_follows aligned (rows.count - 1) node)
      (λ i. alternative_follows (nat_lt i rows.count) (slice_get members (rows.from + i)))

  added_follows : (known : Rows) (b : Bool) (i : ℕ) → TypeFollows aligned (added limits aligned E members ranges defaults node known b i)
  added_follows known false i = unknown_follows aligned node limits.fragments
  added_follows known true i = known_addition_follows (slice_get members (known.from + i))

  choice_by_follows : (b : Bool) (rows known : Rows) → TypeFollows aligned (choice_by limits aligned E members ranges defaults node b rows known)
  choice_by_follows false rows known = choice_follows rows
  choice_by_follows true rows known =
      by_bit_follows aligned node (IsAddedAlternative (rows.count - 1)) (choice limits aligned E members ranges defaults node rows)
      (choice_extension limits aligned E members ranges defaults node rows known) (choice_follows rows)
      (part_agrees Ph (small_number aligned node) (alternative_of_addition (rows.count - 1) known.count)
      (λ i. added limits aligned E members ranges defaults node known (nat_lt i known.count) i) node (small_number_follows aligned node)
      (λ i. added_follows known (nat_lt i known.count) i))

  type_of_follows : (kind : Option Node) → TypeFollows aligned (type_of limits aligned E members ranges defaults node kind)
  type_of_follows None = no_node_follows aligned node
  type_of_follows (Some type.Null) = put_agrees Ph {K = FaultKind} Null nothing node (nothing_agrees Ph FaultKind)
  type_of_follows (Some type.Boolean) = leaf_agrees Ph (anywhere (bit node)) Truth node (anywhere_agrees Ph (bit node))
  type_of_follows (Some (type.IntegerBetween bounds b)) = between_by_follows aligned node b bounds.least bounds.range
  type_of_follows (Some (type.IntegerAtLeast bound b)) = at_least_by_follows aligned node b bound.least
  type_of_follows (Some type.Integer) =
      leaf_agrees Ph (unconstrained aligned node) Integer node (unconstrained_follows aligned node)
  type_of_follows (Some (type.Enumerated last b known)) = enumerated_by_follows aligned node b last known
  type_of_follows (Some (type.BitString size b has_names)) = bit_string_follows aligned node (bit_fragments limits has_names) size b has_names
  type_of_follows (Some (type.OctetString size b)) = octet_string_follows aligned node limits.string_fragments size b
  type_of_follows (Some (type.Text size b alphabet whole)) =
      text_follows aligned node limits.fragments size b (slice_range ranges alphabet.from (alphabet.from + alphabet.count))
      (slice_range ranges whole.from (whole.from + whole.count))
  type_of_follows (Some type.ObjectIdentifier) = contents_follow aligned node limits.fragments IsObjectIdentifier
  type_of_follows (Some type.RelativeIdentifier) = contents_follow aligned node limits.fragments IsRelativeIdentifier
  type_of_follows (Some type.Utf8String) = contents_follow aligned node limits.string_fragments IsUtf8Text
  type_of_follows (Some type.Real) = contents_follow aligned node limits.fragments IsReal
  type_of_follows (Some (type.Time kind)) = time_follows aligned node limits.fragments (IsTime kind)
  type_of_follows (Some (type.Sequence root b known)) = sequence_by_follows b root known
  type_of_follows (Some (type.SequenceOf size b item)) = sequence_of_by_follows b false size item
  type_of_follows (Some (type.SetOf size b item)) = sequence_of_by_follows b true size item
  type_of_follows (Some (type.Choice alternatives b known)) = choice_by_follows b alternatives known
  type_of_follows (Some (type.Open inner)) = open_type_follows aligned node limits.fragments (E inner)

pub type_at_follows : (limits : Limits) (aligned : Bool) (nodes : List Node) (members : List Member) (ranges : List Range)
    (defaults : ℕ → ℕ → Option (List Bool)) (depth node : ℕ)
    → TypeFollows aligned (type_at limits aligned nodes members ranges defaults depth node)
type_at_follows limits aligned nodes members ranges defaults zero node = record { same = λ p q e x list w. absurd w }
type_at_follows limits aligned nodes members ranges defaults (suc depth) node =
    type_of_follows limits aligned (type_at limits aligned nodes members ranges defaults depth)
    (λ n. type_at_follows limits aligned nodes members ranges defaults depth n) members ranges defaults node (slice_get nodes node)

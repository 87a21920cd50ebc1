-- A type within limits only rejects more than the type of X.691.
use Rattle.std.proofs.Common.{◌≡◌, ◌≢◌, ℕ, zero, suc, ◌+◌, ◌-◌, ◌<◌, ◌≤◌, ◌%◌, nat_lt, inl, inr, Bool, true, false, List, [], length, refl, sym, ap, subst, arith, Option, Some, None}
use Rattle.std.proofs.lemmas.List.{append-nil}
use Rattle.std.specs.Prelude.{◌⊎◌, slice_get, slice_range}
use Rattle.asn1_schema.specs.declared.tables.Presence.{Presence}
use Rattle.asn1_schema.specs.declared.tables.Presence.TheVariants as presence
use Rattle.asn1_schema.specs.declared.tables.Length.{Length}
use Rattle.asn1_schema.specs.declared.tables.Length.TheVariants.{AtLeast, Between}
use Rattle.asn1_schema.specs.declared.tables.Range.{Range}
use Rattle.asn1_schema.specs.declared.tables.Member.{Member}
use Rattle.asn1_schema.specs.declared.tables.Rows.{Rows}
use Rattle.asn1_schema.specs.declared.tables.Node.{Node}
use Rattle.asn1_schema.specs.declared.tables.Node.TheVariants as type
use Rattle.asn1_schema.specs.declared.misfit.MisfitKind.TheVariants as misfit
use Rattle.asn1_schema.specs.Pieces.{Parts, Sequence, Count, Chosen, Additions}
use Rattle.asn1_schema.specs.Order.{IsBefore}
use Rattle.asn1_schema.specs.Encodings.{Encoding}
use Rattle.asn1_schema.specs.Fields.{raw_bits}
use Rattle.asn1_schema.specs.TypeEncodings.{TypeEncoding, AfterHeader, part, header, both, several, put, except_type}
use Rattle.asn1_schema.specs.Narrow.{RejectsMore}
use Rattle.asn1_schema.specs.Laws.PhaseLaws.{TypesAgree}
use Rattle.asn1_schema.specs.Laws.NarrowLaws.{AfterIsNarrow, same_narrow, both_narrow, several_narrow, several_by_bits_narrow, part_narrow, put_narrow, header_narrow, except_narrow, end_narrow, mandatory_narrow, optional_narrow, only_where_narrow}
use Rattle.asn1_schema.specs.Times.{IsTime}
use Rattle.asn1_schema.specs.Reals.{IsReal}
use Rattle.asn1_x691.specs.declared.fault.FaultKind.{FaultKind}
use Rattle.asn1_x691.specs.declared.fault.FaultKind.TheVariants.{Short, NoNode, NoAddition, BelowLeast, InRoot, DefaultValue, NotAscending, Unsupported}
use Rattle.asn1_x691.specs.Fields.{phase, constrained, small_length, small_number}
use Rattle.asn1_x691.specs.Fragments.{most_fragments}
use Rattle.asn1_x691.specs.Strings.{IsOfRoot, IsAddedSize}
use Rattle.asn1_x691.specs.Lists.{list_where}
use Rattle.asn1_x691.specs.Contents.{IsObjectIdentifier, IsRelativeIdentifier, IsUtf8Text}
use Rattle.asn1_x691.specs.Limits.{Limits, no_limits, AreWithin, IsNoLimit, IsOffOctet, IsEmptyFragment}
use Rattle.asn1_x691.specs.Types.{IsMisplaced, alternative_of_addition, IsAddedAlternative, optional_count, count_from, IsAddedCount, length_at_least, added_length, any_true, value_by, component_by, component, components, root_of, sequence, known_addition, addition, additions_by_bits, some_additions, extension, IsExtended, sequence_by, in_order, items, fragment_items, items_at_least, sequence_of, added_items, sequence_of_by, alternative_if, choice, added, choice_extension, choice_by, type_of, type_at}
use Rattle.asn1_x691.specs.Laws.LimitLaws.{NarrowTypes, by_bit_narrow, bit_string_narrow, octet_string_narrow, text_narrow, list_narrow, contents_narrow, time_narrow, unknown_narrow, open_type_narrow}
use Rattle.asn1_x691.specs.Laws.TypeLaws.{type_at_type}
use Rattle.asn1_x691.specs.Laws.TypePhaseLaws.{type_at_follows}

abbrev pub AfterNarrow : (ℕ → AfterHeader FaultKind (List Bool)) → (ℕ → AfterHeader FaultKind (List Bool)) → Type 0
AfterNarrow F G = AfterIsNarrow IsNoLimit F G

-- ---- the order of a SET OF

-- items that are not off octets have the phase of the beginning of a message
on_octets : (aligned : Bool) (before : List Bool) (at : ℕ) → 0 < length before → (IsOffOctet true aligned before at → ⊥)
    → (phase aligned at ≡ phase aligned 0) × ((n : ℕ) → phase aligned (n + length before) ≡ phase aligned at → phase aligned n ≡ phase aligned 0)
on_octets false before at some f = (refl, λ n e. refl)
on_octets true before at some f =
    let a : at % 8 ≡ 0 = not_not (at % 8) (λ h. f (some, inl h)) in
    let b : length before % 8 ≡ 0 = not_not (length before % 8) (λ h. f (some, inr h)) in
    (a, λ n e. omega (arith, a, b, e))
  where
    not_not : (n : ℕ) → (n ≢ 0 → ⊥) → n ≡ 0
    not_not zero f = refl
    not_not (suc n) f = absurd (f (λ e. omega (arith, e)))

-- the bits before an item are none, or those of an item that ends there
pub record EndsAt (A : ℕ → TypeEncoding FaultKind) (before : List Bool) (at : ℕ) : Type 0 where
  pub began : ℕ
  pub value : Parts
  pub ends : began + length before ≡ at
  pub encodes : (A began).encoding.encodes value before

abbrev IsAfter : (ℕ → TypeEncoding FaultKind) → List Bool → ℕ → Type 0
IsAfter A before at = (before ≡ []) ⊎ EndsAt A before at

-- A rejects more than B, and in both a value has one encoding, the same at each position of a phase
module _ (aligned : Bool) (A B : ℕ → TypeEncoding FaultKind) (narrow : NarrowTypes A B) (a : TypesAgree (phase aligned) A)
    (b : TypesAgree (phase aligned) B)
    (one : (x : Parts) (l m : List Bool) → (B 0).encoding.encodes x l → (B 0).encoding.encodes x m → l ≡ m) where
  misplaced_wide : (before : List Bool) (at : ℕ) (list : List Bool) → IsMisplaced aligned A before at list
      → IsMisplaced aligned B before at list
  misplaced_wide before at list w = record {
    first = w.first;
    second = w.second;
    first_bits = w.first_bits;
    second_bits = w.second_bits;
    some = w.some;
    began = w.began;
    ended = w.ended;
    first_here = (narrow w.began).encodes w.first before w.first_here;
    second_here = (narrow at).encodes w.second list w.second_here;
    first_alone = (narrow 0).encodes w.first w.first_bits w.first_alone;
    second_alone = (narrow 0).encodes w.second w.second_bits w.second_alone;
    are_before = w.are_before;
  }

  misplaced_after : (before : List Bool) (at : ℕ) (list : List Bool) (x : Parts) → (IsOffOctet true aligned before at → ⊥) → EndsAt A before at
      → (A at).encoding.encodes x list → IsMisplaced aligned B before at list → IsMisplaced aligned A before at list
  misplaced_after before at list x on i p w =
      let place = on_octets aligned before at w.some on in
      let ended : phase aligned (i.began + length before) ≡ phase aligned at = ap (λ (n : ℕ). phase aligned n) i.ends in
      let f : before ≡ w.first_bits =
      one w.first before w.first_bits (b.same w.began 0 (place.1 w.began w.ended) w.first before w.first_here) w.first_alone in
      let s : list ≡ w.second_bits = one w.second list w.second_bits (b.same at 0 place.0 w.second list w.second_here) w.second_alone in
      record {
        first = i.value;
        second = x;
        first_bits = before;
        second_bits = list;
        some = w.some;
        began = i.began;
        ended = ended;
        first_here = i.encodes;
        second_here = p;
        first_alone = a.same i.began 0 (place.1 i.began ended) i.value before i.encodes;
        second_alone = a.same at 0 place.0 x list p;
        are_before = subst (λ (l : List Bool). IsBefore list l) (sym f) (subst (λ (l : List Bool). IsBefore l w.first_bits) (sym s) w.are_before);
      }

  misplaced_narrow : (before : List Bool) (at : ℕ) (list : List Bool) (x : Parts) → (IsOffOctet true aligned before at → ⊥)
      → IsAfter A before at → (A at).encoding.encodes x list → IsMisplaced aligned B before at list → IsMisplaced aligned A before at list
  misplaced_narrow before at list x on (inl e) p w = absurd (omega (arith, w.some, ap length e))
  misplaced_narrow before at list x on (inr i) p w = misplaced_after before at list x on i p w

-- ---- all types

module _ (limits : Limits) (within : AreWithin limits) (aligned : Bool) (E F : ℕ → ℕ → TypeEncoding FaultKind)
    (e : (n : ℕ) → NarrowTypes (E n) (F n)) (f : (n : ℕ) → TypesAgree (phase aligned) (E n)) (g : (n : ℕ) → TypesAgree (phase aligned) (F n))
    (one : (n : ℕ) (x : Parts) (l m : List Bool) → (F n 0).encoding.encodes x l → (F n 0).encoding.encodes x m → l ≡ m)
    (members : List Member) (ranges : List Range) (defaults : ℕ → ℕ → Option (List Bool)) (node : ℕ) where
  abbrev fs : ℕ
  fs = limits.fragments

  value_by_narrow : (p : Presence) (A B : ℕ → TypeEncoding FaultKind) → NarrowTypes A B
      → NarrowTypes (value_by limits aligned E members ranges defaults node p A) (value_by no_limits aligned F members ranges defaults node p B)
  value_by_narrow presence.Mandatory A B a = λ at. a at
  value_by_narrow presence.Optional A B a = λ at. a at
  value_by_narrow (presence.Default value) A B a = λ at.
      let C = λ (list : List Bool). defaults value (phase aligned at) ≡ Some list in
      except_narrow IsNoLimit C C DefaultValue misfit.DefaultValue node (A at) (B at) (a at) (λ x l w c. c) (λ free x l w c. c)

  component_by_narrow : (p : Presence) (A B : ℕ → TypeEncoding FaultKind) → NarrowTypes A B
      → (H G : ℕ → AfterHeader FaultKind (List Bool)) → AfterNarrow H G
      → AfterNarrow (component_by limits aligned E members ranges defaults node p A H)
      (component_by no_limits aligned F members ranges defaults node p B G)
  component_by_narrow presence.Mandatory A B a H G h = mandatory_narrow IsNoLimit A B H G a h
  component_by_narrow presence.Optional A B a H G h = optional_narrow IsNoLimit NoNode node A B H G a h
  component_by_narrow (presence.Default value) A B a H G h = optional_narrow IsNoLimit NoNode node A B H G a h

  component_narrow : (m : Option Member) (H G : ℕ → AfterHeader FaultKind (List Bool)) → AfterNarrow H G
      → AfterNarrow (component limits aligned E members ranges defaults node m H) (component no_limits aligned F members ranges defaults node m G)
  component_narrow None H G h = λ at bits. same_narrow IsNoLimit ((component limits aligned E members ranges defaults node None H at).after bits)
  component_narrow (Some m) H G h =
      component_by_narrow m.presence (value_by limits aligned E members ranges defaults node m.presence (E m.node))
      (value_by no_limits aligned F members ranges defaults node m.presence (F m.node))
      (value_by_narrow m.presence (E m.node) (F m.node) (e m.node)) H G h

  components_narrow : (count from : ℕ) → AfterNarrow (components limits aligned E members ranges defaults node count from)
      (components no_limits aligned F members ranges defaults node count from)
  components_narrow zero from = end_narrow IsNoLimit NoNode node
  components_narrow (suc count) from =
      component_narrow (slice_get members from) (components limits aligned E members ranges defaults node count (from + 1))
      (components no_limits aligned F members ranges defaults node count (from + 1)) (components_narrow count (from + 1))

  root_narrow : (root : Rows) → NarrowTypes (root_of limits aligned E members ranges defaults node root)
      (root_of no_limits aligned F members ranges defaults node root)
  root_narrow root =
      let width = optional_count members root.count root.from in
      header_narrow IsNoLimit (raw_bits width Short node) width (components limits aligned E members ranges defaults node root.count root.from)
      (components no_limits aligned F members ranges defaults node root.count root.from) node (components_narrow root.count root.from)

  sequence_narrow : (root : Rows) → NarrowTypes (sequence limits aligned E members ranges defaults node root)
      (sequence no_limits aligned F members ranges defaults node root)
  sequence_narrow root =
      put_narrow IsNoLimit (Sequence root.count false) (root_of limits aligned E members ranges defaults node root)
      (root_of no_limits aligned F members ranges defaults node root) node (root_narrow root)

  known_addition_narrow : (m : Option Member) → NarrowTypes (known_addition limits aligned E members ranges defaults node m)
      (known_addition no_limits aligned F members ranges defaults node m)
  known_addition_narrow None = λ at. same_narrow IsNoLimit (known_addition limits aligned E members ranges defaults node None at).encoding
  known_addition_narrow (Some m) =
      open_type_narrow fs most_fragments within.fragments aligned node
      (value_by limits aligned E members ranges defaults node m.presence (E m.node))
      (value_by no_limits aligned F members ranges defaults node m.presence (F m.node))
      (value_by_narrow m.presence (E m.node) (F m.node) (e m.node))

  addition_narrow : (known from : ℕ) → NarrowTypes (addition limits aligned E members ranges defaults node known from)
      (addition no_limits aligned F members ranges defaults node known from)
  addition_narrow zero from = unknown_narrow fs most_fragments within.fragments aligned node
  addition_narrow (suc known) from = known_addition_narrow (slice_get members from)

  additions_narrow : (count known from : ℕ) → AfterNarrow (additions_by_bits limits aligned E members ranges defaults node count known from)
      (additions_by_bits no_limits aligned F members ranges defaults node count known from)
  additions_narrow zero known from = end_narrow IsNoLimit NoNode node
  additions_narrow (suc count) known from =
      optional_narrow IsNoLimit NoNode node (addition limits aligned E members ranges defaults node known from)
      (addition no_limits aligned F members ranges defaults node known from)
      (additions_by_bits limits aligned E members ranges defaults node count (known - 1) (from + 1))
      (additions_by_bits no_limits aligned F members ranges defaults node count (known - 1) (from + 1)) (addition_narrow known from)
      (additions_narrow count (known - 1) (from + 1))

  extension_narrow : (known : Rows) → NarrowTypes (extension limits aligned E members ranges defaults node known)
      (extension no_limits aligned F members ranges defaults node known)
  extension_narrow known =
      let A = some_additions limits aligned E members ranges defaults node in
      let B = some_additions no_limits aligned F members ranges defaults node in
      part_narrow IsNoLimit (small_length aligned node) (small_length aligned node) Additions
      (λ count. header (raw_bits count Short node) count (A count known) node)
      (λ count. header (raw_bits count Short node) count (B count known) node) node (λ at. same_narrow IsNoLimit (small_length aligned node at))
      (λ count. header_narrow IsNoLimit (raw_bits count Short node) count (A count known) (B count known) node
      (only_where_narrow IsNoLimit any_true NoAddition misfit.NoAddition node
      (additions_by_bits limits aligned E members ranges defaults node count known.count known.from)
      (additions_by_bits no_limits aligned F members ranges defaults node count known.count known.from)
      (additions_narrow count known.count known.from)))

  sequence_by_narrow : (b : Bool) (root known : Rows) → NarrowTypes (sequence_by limits aligned E members ranges defaults node b root known)
      (sequence_by no_limits aligned F members ranges defaults node b root known)
  sequence_by_narrow false root known = sequence_narrow root
  sequence_by_narrow true root known =
      let R = root_of limits aligned E members ranges defaults node root in
      let S = root_of no_limits aligned F members ranges defaults node root in
      let X = extension limits aligned E members ranges defaults node known in
      let Y = extension no_limits aligned F members ranges defaults node known in
      by_bit_narrow fs most_fragments within.fragments aligned node (IsExtended limits aligned E members ranges defaults node root)
      (sequence limits aligned E members ranges defaults node root) (put (Sequence root.count true) (both R X) node)
      (sequence no_limits aligned F members ranges defaults node root) (put (Sequence root.count true) (both S Y) node) (sequence_narrow root)
      (put_narrow IsNoLimit (Sequence root.count true) (both R X) (both S Y) node
      (both_narrow IsNoLimit R S X Y (root_narrow root) (extension_narrow known)))

  -- what is in place on octets
  on_octets_of : (item : ℕ) (before : List Bool) (at : ℕ) (x : Parts) (list : List Bool)
      → (except_type (λ l. IsOffOctet limits.sets_on_octets aligned before at) Unsupported misfit.Unsupported node (E item at)).encoding.encodes x list
      → IsOffOctet true aligned before at → ⊥
  on_octets_of item before at x list w =
      subst (λ (s : Bool). IsOffOctet s aligned before at → ⊥) within.sets_on_octets w.1

  inner_narrow : (item : ℕ) (before : List Bool) (at : ℕ)
      → RejectsMore IsNoLimit
      (except_type (λ l. IsOffOctet limits.sets_on_octets aligned before at) Unsupported misfit.Unsupported node (E item at)).encoding
      (except_type (λ l. IsOffOctet false aligned before at) Unsupported misfit.Unsupported node (F item at)).encoding
  inner_narrow item before at =
      except_narrow IsNoLimit (λ l. IsOffOctet limits.sets_on_octets aligned before at) (λ l. IsOffOctet false aligned before at) Unsupported
      misfit.Unsupported node (E item at) (F item at) (e item at) (λ x l w c. absurd c) (λ free. absurd (free refl))

  in_order_narrow : (item : ℕ) (before : List Bool) (at : ℕ) → IsAfter (E item) before at
      → RejectsMore IsNoLimit (in_order limits aligned E members ranges defaults node item before at).encoding
      (in_order no_limits aligned F members ranges defaults node item before at).encoding
  in_order_narrow item before at i =
      except_narrow IsNoLimit (IsMisplaced aligned (E item) before at) (IsMisplaced aligned (F item) before at) NotAscending misfit.NotAscending
      node (except_type (λ l. IsOffOctet limits.sets_on_octets aligned before at) Unsupported misfit.Unsupported node (E item at))
      (except_type (λ l. IsOffOctet false aligned before at) Unsupported misfit.Unsupported node (F item at)) (inner_narrow item before at)
      (λ x l w c. misplaced_narrow aligned (E item) (F item) (e item) (f item) (g item) (one item) before at l x
      (on_octets_of item before at x l w) i w.0 c)
      (λ free x l w c. misplaced_wide aligned (E item) (F item) (e item) (f item) (g item) (one item) before at l c)

  items_narrow : (is_set : Bool) (item n : ℕ) → NarrowTypes (items limits aligned E members ranges defaults node is_set item n)
      (items no_limits aligned F members ranges defaults node is_set item n)
  items_narrow false item n = several_narrow IsNoLimit (E item) (F item) (e item) n
  items_narrow true item n = λ at.
      several_by_bits_narrow IsNoLimit (IsAfter (E item)) (in_order limits aligned E members ranges defaults node item)
      (in_order no_limits aligned F members ranges defaults node item) (in_order_narrow item)
      (λ before p x list w. inr (record { began = p; value = x; ends = refl; encodes = w.0.0 })) n [] at (inl refl)

  fragment_items_narrow : (item n : ℕ) → NarrowTypes (fragment_items limits aligned E members ranges defaults node item n)
      (fragment_items no_limits aligned F members ranges defaults node item n)
  fragment_items_narrow item n at =
      except_narrow IsNoLimit (λ l. IsEmptyFragment limits.fragments_have_bits n l) (λ l. IsEmptyFragment false n l) Unsupported
      misfit.Unsupported node (several (E item) n at) (several (F item) n at) (several_narrow IsNoLimit (E item) (F item) (e item) n at)
      (λ x l w c. absurd c) (λ free. absurd (free refl))

  lists_narrow : (item : ℕ) (Yes No : ℕ → Type 0) (kind : FaultKind)
      → NarrowTypes
      (list_where (fragment_items limits aligned E members ranges defaults node item) aligned node limits.item_fragments Yes No kind)
      (list_where (fragment_items no_limits aligned F members ranges defaults node item) aligned node most_fragments Yes No kind)
  lists_narrow item Yes No kind =
      list_narrow limits.item_fragments most_fragments within.item_fragments aligned node
      (fragment_items limits aligned E members ranges defaults node item) (fragment_items no_limits aligned F members ranges defaults node item)
      (fragment_items_narrow item) Yes No kind

  set_narrow : (L : ℕ → Encoding FaultKind ℕ) (item : ℕ)
      → NarrowTypes (part L Count (λ n. items limits aligned E members ranges defaults node true item n) node)
      (part L Count (λ n. items no_limits aligned F members ranges defaults node true item n) node)
  set_narrow L item =
      part_narrow IsNoLimit L L Count (λ n. items limits aligned E members ranges defaults node true item n)
      (λ n. items no_limits aligned F members ranges defaults node true item n) node (λ at. same_narrow IsNoLimit (L at))
      (λ n. items_narrow true item n)

  at_least_narrow : (is_set : Bool) (least item : ℕ)
      → NarrowTypes (items_at_least limits aligned E members ranges defaults node is_set least item)
      (items_at_least no_limits aligned F members ranges defaults node is_set least item)
  at_least_narrow false least item = lists_narrow item (λ n. least ≤ n) (λ n. n < least) BelowLeast
  at_least_narrow true least item = set_narrow (length_at_least aligned least node) item

  sequence_of_narrow : (is_set : Bool) (size : Length) (item : ℕ)
      → NarrowTypes (sequence_of limits aligned E members ranges defaults node is_set size item)
      (sequence_of no_limits aligned F members ranges defaults node is_set size item)
  sequence_of_narrow is_set (AtLeast least) item = at_least_narrow is_set least item
  sequence_of_narrow is_set (Between least range) item =
      part_narrow IsNoLimit (constrained aligned range node) (constrained aligned range node) (count_from least)
      (λ d. items limits aligned E members ranges defaults node is_set item (least + d))
      (λ d. items no_limits aligned F members ranges defaults node is_set item (least + d)) node
      (λ at. same_narrow IsNoLimit (constrained aligned range node at)) (λ d. items_narrow is_set item (least + d))

  added_items_narrow : (is_set : Bool) (size : Length) (item : ℕ)
      → NarrowTypes (added_items limits aligned E members ranges defaults node is_set size item)
      (added_items no_limits aligned F members ranges defaults node is_set size item)
  added_items_narrow false size item = lists_narrow item (IsAddedSize size) (IsOfRoot size) InRoot
  added_items_narrow true size item = set_narrow (added_length aligned size node) item

  sequence_of_by_narrow : (b is_set : Bool) (size : Length) (item : ℕ)
      → NarrowTypes (sequence_of_by limits aligned E members ranges defaults node b is_set size item)
      (sequence_of_by no_limits aligned F members ranges defaults node b is_set size item)
  sequence_of_by_narrow false is_set size item = sequence_of_narrow is_set size item
  sequence_of_by_narrow true is_set size item =
      by_bit_narrow fs most_fragments within.fragments aligned node (IsAddedCount size)
      (sequence_of limits aligned E members ranges defaults node is_set size item)
      (added_items limits aligned E members ranges defaults node is_set size item)
      (sequence_of no_limits aligned F members ranges defaults node is_set size item)
      (added_items no_limits aligned F members ranges defaults node is_set size item) (sequence_of_narrow is_set size item)
      (added_items_narrow is_set size item)

  alternative_narrow : (b : Bool) (m : Option Member) → NarrowTypes (alternative_if limits aligned E members ranges defaults node b m)
      (alternative_if no_limits aligned F members ranges defaults node b m)
  alternative_narrow false m = λ at. same_narrow IsNoLimit (alternative_if limits aligned E members ranges defaults node false m at).encoding
  alternative_narrow true None = λ at. same_narrow IsNoLimit (alternative_if limits aligned E members ranges defaults node true None at).encoding
  alternative_narrow true (Some m) = e m.node

  choice_narrow : (rows : Rows) → NarrowTypes (choice limits aligned E members ranges defaults node rows)
      (choice no_limits aligned F members ranges defaults node rows)
  choice_narrow rows =
      let C = constrained aligned (rows.count - 1) node in
      part_narrow IsNoLimit C C Chosen
      (λ i. alternative_if limits aligned E members ranges defaults node (nat_lt i rows.count) (slice_get members (rows.from + i)))
      (λ i. alternative_if no_limits aligned F members ranges defaults node (nat_lt i rows.count) (slice_get members (rows.from + i))) node
      (λ at. same_narrow IsNoLimit (C at)) (λ i. alternative_narrow (nat_lt i rows.count) (slice_get members (rows.from + i)))

  added_narrow : (known : Rows) (b : Bool) (i : ℕ) → NarrowTypes (added limits aligned E members ranges defaults node known b i)
      (added no_limits aligned F members ranges defaults node known b i)
  added_narrow known false i = unknown_narrow fs most_fragments within.fragments aligned node
  added_narrow known true i = known_addition_narrow (slice_get members (known.from + i))

  choice_by_narrow : (b : Bool) (rows known : Rows) → NarrowTypes (choice_by limits aligned E members ranges defaults node b rows known)
      (choice_by no_limits aligned F members ranges defaults node b rows known)
  choice_by_narrow false rows known = choice_narrow rows
  choice_by_narrow true rows known =
      let S = small_number aligned node in
      by_bit_narrow fs most_fragments within.fragments aligned node (IsAddedAlternative (rows.count - 1))
      (choice limits aligned E members ranges defaults node rows) (choice_extension limits aligned E members ranges defaults node rows known)
      (choice no_limits aligned F members ranges defaults node rows) (choice_extension no_limits aligned F members ranges defaults node rows known)
      (choice_narrow rows)
      (part_narrow IsNoLimit S S (alternative_of_addition (rows.count - 1) known.count)
      (λ i. added limits aligned E members ranges defaults node known (nat_lt i known.count) i)
      (λ i. added no_limits aligned F members ranges defaults node known (nat_lt i known.count) i) node (λ at. same_narrow IsNoLimit (S at))
      (λ i. added_narrow known (nat_lt i known.count) i))

  abbrev T : Option Node → ℕ → TypeEncoding FaultKind
  T kind = type_of limits aligned E members ranges defaults node kind

  type_of_narrow : (kind : Option Node) → NarrowTypes (T kind) (type_of no_limits aligned F members ranges defaults node kind)
  type_of_narrow None = λ at. same_narrow IsNoLimit (T None at).encoding
  type_of_narrow (Some type.Null) = λ at. same_narrow IsNoLimit (T (Some type.Null) at).encoding
  type_of_narrow (Some type.Boolean) = λ at. same_narrow IsNoLimit (T (Some type.Boolean) at).encoding
  type_of_narrow (Some (type.IntegerBetween bounds b)) = λ at. same_narrow IsNoLimit (T (Some (type.IntegerBetween bounds b)) at).encoding
  type_of_narrow (Some (type.IntegerAtLeast bound b)) = λ at. same_narrow IsNoLimit (T (Some (type.IntegerAtLeast bound b)) at).encoding
  type_of_narrow (Some type.Integer) = λ at. same_narrow IsNoLimit (T (Some type.Integer) at).encoding
  type_of_narrow (Some (type.Enumerated last b known)) = λ at. same_narrow IsNoLimit (T (Some (type.Enumerated last b known)) at).encoding
  type_of_narrow (Some (type.BitString size b false)) =
      bit_string_narrow limits.string_fragments most_fragments within.string_fragments aligned node size b false
  type_of_narrow (Some (type.BitString size b true)) = bit_string_narrow fs most_fragments within.fragments aligned node size b true
  type_of_narrow (Some (type.OctetString size b)) =
      octet_string_narrow limits.string_fragments most_fragments within.string_fragments aligned node size b
  type_of_narrow (Some (type.Text size b alphabet whole)) =
      text_narrow fs most_fragments within.fragments aligned node size b (slice_range ranges alphabet.from (alphabet.from + alphabet.count))
      (slice_range ranges whole.from (whole.from + whole.count))
  type_of_narrow (Some type.ObjectIdentifier) = contents_narrow fs most_fragments within.fragments aligned node IsObjectIdentifier
  type_of_narrow (Some type.RelativeIdentifier) = contents_narrow fs most_fragments within.fragments aligned node IsRelativeIdentifier
  type_of_narrow (Some type.Utf8String) = contents_narrow limits.string_fragments most_fragments within.string_fragments aligned node IsUtf8Text
  type_of_narrow (Some type.Real) = contents_narrow fs most_fragments within.fragments aligned node IsReal
  type_of_narrow (Some (type.Time kind)) = time_narrow fs most_fragments within.fragments aligned node (IsTime kind)
  type_of_narrow (Some (type.Sequence root b known)) = sequence_by_narrow b root known
  type_of_narrow (Some (type.SequenceOf size b item)) = sequence_of_by_narrow b false size item
  type_of_narrow (Some (type.SetOf size b item)) = sequence_of_by_narrow b true size item
  type_of_narrow (Some (type.Choice alternatives b known)) = choice_by_narrow b alternatives known
  type_of_narrow (Some (type.Open inner)) = open_type_narrow fs most_fragments within.fragments aligned node (E inner) (F inner) (e inner)

module _ (limits : Limits) (within : AreWithin limits) (aligned : Bool) (nodes : List Node) (members : List Member) (ranges : List Range)
    (defaults : ℕ → ℕ → Option (List Bool)) where
  one_encoding : (depth node : ℕ) (x : Parts) (l m : List Bool)
      → (type_at no_limits aligned nodes members ranges defaults depth node 0).encoding.encodes x l
      → (type_at no_limits aligned nodes members ranges defaults depth node 0).encoding.encodes x m → l ≡ m
  one_encoding depth node x l m p q =
      (((type_at_type no_limits aligned nodes members ranges defaults depth node).good 0).encodes.one x x x [] [] l m p q (sym (append-nil x))
      (sym (append-nil x))).2

  pub type_at_narrow : (depth node : ℕ) → NarrowTypes (type_at limits aligned nodes members ranges defaults depth node)
      (type_at no_limits aligned nodes members ranges defaults depth node)
  type_at_narrow zero node = λ at. same_narrow IsNoLimit (type_at limits aligned nodes members ranges defaults zero node at).encoding
  type_at_narrow (suc depth) node =
      type_of_narrow limits within aligned (type_at limits aligned nodes members ranges defaults depth)
      (type_at no_limits aligned nodes members ranges defaults depth) (type_at_narrow depth)
      (type_at_follows limits aligned nodes members ranges defaults depth) (type_at_follows no_limits aligned nodes members ranges defaults depth)
      (one_encoding depth) members ranges defaults node (slice_get nodes node)

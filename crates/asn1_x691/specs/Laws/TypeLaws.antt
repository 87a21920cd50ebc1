-- Laws of types: at every node of every schema, at every position, in both variants.
use Rattle.std.proofs.Common.{◌≡◌, ℕ, zero, suc, ◌+◌, ◌-◌, nat_lt, Bool, true, false, List, length, refl, sym, ◌∙◌, arith, Option, Some, None}
use Rattle.std.specs.Prelude.{slice_get, slice_range}
use Rattle.asn1_schema.specs.declared.tables.Presence.{Presence}
use Rattle.asn1_schema.specs.declared.tables.Presence.TheVariants as presence
use Rattle.asn1_schema.specs.declared.tables.Range.{Range}
use Rattle.asn1_schema.specs.declared.tables.Member.{Member}
use Rattle.asn1_schema.specs.declared.tables.Rows.{Rows}
use Rattle.asn1_schema.specs.declared.tables.Node.{Node}
use Rattle.asn1_schema.specs.declared.tables.Node.TheVariants as type
use Rattle.asn1_schema.specs.declared.misfit.MisfitKind.TheVariants as misfit
use Rattle.asn1_schema.specs.Pieces.{Null, Truth, Sequence, Chosen, Parts, Additions, Unknown}
use Rattle.asn1_schema.specs.Encodings.{anywhere}
use Rattle.asn1_schema.specs.Fields.{raw_bits}
use Rattle.asn1_schema.specs.TypeEncodings.{TypeEncoding, AfterHeader, nothing, header, both, put}
use Rattle.asn1_schema.specs.Laws.EncodingLaws.{invalid_sound}
use Rattle.asn1_schema.specs.Laws.FieldLaws.{raw_bits_sound, raw_bits_encode_one, raw_bits_size}
use Rattle.asn1_schema.specs.Laws.WritingLaws.{IsPresent}
use Rattle.asn1_schema.specs.Laws.TypeLaws.{IsGoodEverywhere, nothing_good, invalid_type_good, part_good, except_type_good, except_type_present, put_good, put_present, both_good}
use Rattle.asn1_schema.specs.Laws.HeaderLaws.{IsGoodAfterEverywhere, header_good, only_where_good}
use Rattle.asn1_schema.specs.Laws.ComponentLaws.{end_of_components_good, mandatory_good, optional_good}
use Rattle.asn1_schema.specs.Times.{IsTime}
use Rattle.asn1_schema.specs.Reals.{IsReal}
use Rattle.asn1_x691.specs.declared.fault.FaultKind.{FaultKind}
use Rattle.asn1_x691.specs.declared.fault.FaultKind.TheVariants.{Short, NoNode, TooDeep, NoAddition, DefaultValue}
use Rattle.asn1_x691.specs.Fields.{phase, constrained, small_length, small_number}
use Rattle.asn1_x691.specs.Strings.{bit}
use Rattle.asn1_x691.specs.OpenTypes.{complete, open_type}
use Rattle.asn1_x691.specs.Types.{optional_count, value_by, component_by, no_component, component, components, sequence, alternative, alternative_if, choice, type_of, type_at, any_true, root_of, known_addition, addition, additions_by_bits, some_additions, extension, IsExtended, extensible_sequence, sequence_by, alternative_of_addition, IsAddedAlternative, added, choice_extension, choice_by}
use Rattle.asn1_x691.specs.Laws.FieldLaws.{constrained_sound, small_length_sound, small_number_sound}
use Rattle.asn1_x691.specs.Laws.OneEncodingLaws.{constrained_one, small_length_one, inner}
use Rattle.asn1_x691.specs.Laws.NumberLaws.{small_number_one}
use Rattle.asn1_x691.specs.Laws.StringLaws.{bit_sound, bit_one}
use Rattle.asn1_x691.specs.Limits.{Limits, bit_fragments}
use Rattle.asn1_x691.specs.Fragments.{octets}
use Rattle.asn1_x691.specs.Laws.FragmentLaws.{octets_sound, octets_one}
use Rattle.asn1_x691.specs.Laws.OpenTypeLaws.{open_type_good}
use Rattle.asn1_x691.specs.Laws.RangeLaws.{constrained_within}
use Rattle.asn1_x691.specs.Laws.GoodTypes.{IsType, no_node_type, leaf_type, part_type, by_bit_type}
use Rattle.asn1_x691.specs.Laws.LeafLaws.{integer_between_by_type, integer_at_least_by_type, integer_type, enumerated_by_type, bit_string_type, octet_string_type, text_type, contents_type, time_type}
use Rattle.asn1_x691.specs.Laws.ItemLaws.{sequence_of_by_type}
use Rattle.asn1_x691.specs.Contents.{IsObjectIdentifier, IsRelativeIdentifier, IsUtf8Text}
use Rattle.asn1_x691.specs.Laws.PieceLaws.{truth_alike, chosen_alike, unknown_alike, additions_alike, added_alternative_alike, added_alternative_present, is_added_alternative}

-- ---- open types

open_type_type : (most : ℕ) (aligned : Bool) (node : ℕ) (A : ℕ → TypeEncoding FaultKind) → IsType A → IsType (open_type most aligned node A)
open_type_type most aligned node A a = record {
  good = open_type_good most aligned node A a.good;
  present = λ at. record { each = λ xs l p. held xs p.0.1 p.2 };
}
  where
    held : (xs : Parts) (l : List Bool) → (complete node A).fills xs l → IsPresent xs
    held xs l p =
        let q = (a.present 0).each p.value.0 p.front p.first.0 in
        record { first = q.first; others = q.others; are = p.is ∙ q.are; present = q.present }

-- ---- all types

module _ (limits : Limits) (aligned : Bool) (E : ℕ → ℕ → TypeEncoding FaultKind) (e : (n : ℕ) → IsType (E n)) (members : List Member)
    (ranges : List Range) (defaults : ℕ → ℕ → Option (List Bool)) (node : ℕ) where
  value_by_type : (p : Presence) (A : ℕ → TypeEncoding FaultKind) → IsType A → IsType (value_by limits aligned E members ranges defaults node p A)
  value_by_type presence.Mandatory A a = record { good = λ at. a.good at; present = λ at. a.present at }
  value_by_type presence.Optional A a = record { good = λ at. a.good at; present = λ at. a.present at }
  value_by_type (presence.Default value) A a = record {
    good = λ at. except_type_good (λ list. defaults value (phase aligned at) ≡ Some list) DefaultValue misfit.DefaultValue node (A at) (a.good at);
    present = λ at.
        except_type_present (λ list. defaults value (phase aligned at) ≡ Some list) DefaultValue misfit.DefaultValue node (A at) (a.good at) (a.present at);
  }

  component_by_good : (p : Presence) (A : ℕ → TypeEncoding FaultKind) → IsType A → (F : ℕ → AfterHeader FaultKind (List Bool))
      → IsGoodAfterEverywhere F → IsGoodAfterEverywhere (component_by limits aligned E members ranges defaults node p A F)
  component_by_good presence.Mandatory A a F f = λ at. mandatory_good A F a.good f at
  component_by_good presence.Optional A a F f = λ at. optional_good A F a.good f at NoNode node (a.present at)
  component_by_good (presence.Default value) A a F f = λ at. optional_good A F a.good f at NoNode node (a.present at)

  no_component_good : IsGoodAfterEverywhere (no_component limits aligned E members ranges defaults node)
  no_component_good at = record {
    decodes = λ bits. invalid_sound NoNode node;
    encodes = record {
      one = λ x y tape xs ys rest other a b p q s t. absurd p;
      excludes = λ tape g m x xs rest a p s. p;
      one_misfit = λ tape g h m n. m ∙ sym n;
    };
    names = record { covers = λ tape sound able. sound (record { node = node; left = length tape; kind = misfit.NoNode }) refl };
  }

  component_good : (m : Option Member) (F : ℕ → AfterHeader FaultKind (List Bool)) → IsGoodAfterEverywhere F
      → IsGoodAfterEverywhere (component limits aligned E members ranges defaults node m F)
  component_good None F f = no_component_good
  component_good (Some m) F f =
      component_by_good m.presence (value_by limits aligned E members ranges defaults node m.presence (E m.node))
      (value_by_type m.presence (E m.node) (e m.node)) F f

  components_good : (count from : ℕ) → IsGoodAfterEverywhere (components limits aligned E members ranges defaults node count from)
  components_good zero from = end_of_components_good NoNode node
  components_good (suc count) from =
      component_good (slice_get members from) (components limits aligned E members ranges defaults node count (from + 1)) (components_good count (from + 1))

  root_good : (root : Rows) → IsGoodEverywhere (root_of limits aligned E members ranges defaults node root)
  root_good root at =
      let width = optional_count members root.count root.from in
      header_good (raw_bits width Short node) width (components limits aligned E members ranges defaults node root.count root.from) node
      (raw_bits_sound width Short node) (raw_bits_encode_one width Short node) (raw_bits_size width Short node)
      (components_good root.count root.from) at

  sequence_type : (root : Rows) → IsType (sequence limits aligned E members ranges defaults node root)
  sequence_type root = record {
    good = put_good (Sequence root.count false) (root_of limits aligned E members ranges defaults node root) node (root_good root);
    present = put_present (Sequence root.count false) (root_of limits aligned E members ranges defaults node root) node (root_good root) (λ p. cc);
  }

  known_addition_type : (m : Option Member) → IsType (known_addition limits aligned E members ranges defaults node m)
  known_addition_type None = no_node_type node
  known_addition_type (Some m) =
      open_type_type limits.fragments aligned node (value_by limits aligned E members ranges defaults node m.presence (E m.node))
      (value_by_type m.presence (E m.node) (e m.node))

  addition_type : (known from : ℕ) → IsType (addition limits aligned E members ranges defaults node known from)
  addition_type zero from =
      leaf_type (octets limits.fragments aligned node) Unknown node (octets_sound limits.fragments aligned node) (octets_one limits.fragments aligned node) unknown_alike (λ x p. cc)
  addition_type (suc known) from = known_addition_type (slice_get members from)

  additions_good : (count known from : ℕ) → IsGoodAfterEverywhere (additions_by_bits limits aligned E members ranges defaults node count known from)
  additions_good zero known from = end_of_components_good NoNode node
  additions_good (suc count) known from = λ at.
      optional_good (addition limits aligned E members ranges defaults node known from)
      (additions_by_bits limits aligned E members ranges defaults node count (known - 1) (from + 1)) (addition_type known from).good
      (additions_good count (known - 1) (from + 1)) at NoNode node ((addition_type known from).present at)

  some_additions_good : (count : ℕ) (known : Rows) → IsGoodAfterEverywhere (some_additions limits aligned E members ranges defaults node count known)
  some_additions_good count known at =
      only_where_good any_true NoAddition misfit.NoAddition node
      (additions_by_bits limits aligned E members ranges defaults node count known.count known.from) at (additions_good count known.count known.from at)

  extension_good : (known : Rows) → IsGoodEverywhere (extension limits aligned E members ranges defaults node known)
  extension_good known at =
      part_good (small_length aligned node) Additions
      (λ count. header (raw_bits count Short node) count (some_additions limits aligned E members ranges defaults node count known) node) node
      (small_length_sound aligned node) (small_length_one aligned node) additions_alike
      (λ count to. header_good (raw_bits count Short node) count (some_additions limits aligned E members ranges defaults node count known) node
      (raw_bits_sound count Short node) (raw_bits_encode_one count Short node) (raw_bits_size count Short node)
      (some_additions_good count known) to) at

  module _ (root known : Rows) where
    -- the root and additions
    abbrev Rest : ℕ → TypeEncoding FaultKind
    Rest = both (root_of limits aligned E members ranges defaults node root) (extension limits aligned E members ranges defaults node known)

    abbrev Extended : ℕ → TypeEncoding FaultKind
    Extended = put (Sequence root.count true) Rest node

    rest_good : IsGoodEverywhere Rest
    rest_good = both_good (root_of limits aligned E members ranges defaults node root) (extension limits aligned E members ranges defaults node known) (root_good root)
        (extension_good known)

    extended_type : IsType Extended
    extended_type = record {
      good = put_good (Sequence root.count true) Rest node rest_good;
      present = put_present (Sequence root.count true) Rest node rest_good (λ p. cc);
    }

    extensible_type : IsType (extensible_sequence limits aligned E members ranges defaults node root known)
    extensible_type =
        by_bit_type node (IsExtended limits aligned E members ranges defaults node root) (sequence limits aligned E members ranges defaults node root) Extended
        (sequence_type root) extended_type
        (λ at. record { each = λ xs l p. (Sequence root.count false, p.after, p.is, λ q. cc) })
        (λ at. record { each = λ xs l p. (Sequence root.count true, p.after, p.is, refl) })

  sequence_by_type : (b : Bool) (root known : Rows) → IsType (sequence_by limits aligned E members ranges defaults node b root known)
  sequence_by_type false root known = sequence_type root
  sequence_by_type true root known = extensible_type root known

  alternative_good : (m : Option Member) → IsGoodEverywhere (alternative limits aligned E members ranges defaults node m)
  alternative_good None = (no_node_type node).good
  alternative_good (Some m) = (e m.node).good

  alternative_if_good : (b : Bool) (m : Option Member) → IsGoodEverywhere (alternative_if limits aligned E members ranges defaults node b m)
  alternative_if_good false m = (no_node_type node).good
  alternative_if_good true m = alternative_good m

  choice_type : (rows : Rows) → IsType (choice limits aligned E members ranges defaults node rows)
  choice_type rows =
      part_type (constrained aligned (rows.count - 1) node) Chosen
      (λ i. alternative_if limits aligned E members ranges defaults node (nat_lt i rows.count) (slice_get members (rows.from + i))) node
      (constrained_sound aligned (rows.count - 1) node) (constrained_one aligned (rows.count - 1) node) chosen_alike (λ x p. cc)
      (λ i. alternative_if_good (nat_lt i rows.count) (slice_get members (rows.from + i)))

  added_good : (known : Rows) (b : Bool) (i : ℕ) → IsGoodEverywhere (added limits aligned E members ranges defaults node known b i)
  added_good known false i = (addition_type zero i).good
  added_good known true i = (known_addition_type (slice_get members (known.from + i))).good

  choice_extension_type : (rows known : Rows) → IsType (choice_extension limits aligned E members ranges defaults node rows known)
  choice_extension_type rows known =
      part_type (small_number aligned node) (alternative_of_addition (rows.count - 1) known.count)
      (λ i. added limits aligned E members ranges defaults node known (nat_lt i known.count) i) node (small_number_sound aligned node)
      (small_number_one aligned node) (λ x y. added_alternative_alike (rows.count - 1) (nat_lt x known.count) (nat_lt y known.count) x y)
      (λ x. added_alternative_present (rows.count - 1) (nat_lt x known.count) x)
      (λ i. added_good known (nat_lt i known.count) i)

  choice_by_type : (b : Bool) (rows known : Rows) → IsType (choice_by limits aligned E members ranges defaults node b rows known)
  choice_by_type false rows known = choice_type rows
  choice_by_type true rows known =
      by_bit_type node (IsAddedAlternative (rows.count - 1)) (choice limits aligned E members ranges defaults node rows)
      (choice_extension limits aligned E members ranges defaults node rows known) (choice_type rows) (choice_extension_type rows known)
      (λ at. record {
        each = λ xs l p. (
          Chosen p.value,
          p.after,
          p.is,
          λ q. let few = constrained_within aligned (rows.count - 1) node at p.value p.front p.first in omega (arith, few, q),
        );
      })
      (λ at. record {
        each = λ xs l p. (
          alternative_of_addition (rows.count - 1) known.count p.value,
          p.after,
          p.is,
          is_added_alternative (rows.count - 1) (nat_lt p.value known.count) p.value,
        );
      })

  type_of_type : (kind : Option Node) → IsType (type_of limits aligned E members ranges defaults node kind)
  type_of_type None = no_node_type node
  type_of_type (Some type.Null) = record {
    good = put_good Null nothing node nothing_good;
    present = put_present Null nothing node nothing_good (λ p. cc);
  }
  type_of_type (Some type.Boolean) =
      leaf_type (anywhere (bit node)) Truth node (λ at. bit_sound node) (λ at. bit_one node) truth_alike (λ x p. cc)
  type_of_type (Some (type.IntegerBetween bounds is_extensible)) =
      integer_between_by_type aligned node is_extensible bounds.least bounds.range
  type_of_type (Some (type.IntegerAtLeast bound is_extensible)) =
      integer_at_least_by_type aligned node is_extensible bound.least
  type_of_type (Some type.Integer) = integer_type aligned node
  type_of_type (Some (type.Enumerated last is_extensible known)) = enumerated_by_type aligned node is_extensible last known
  type_of_type (Some (type.BitString size is_extensible has_names)) = bit_string_type (bit_fragments limits has_names) aligned node size is_extensible has_names
  type_of_type (Some (type.OctetString size is_extensible)) = octet_string_type limits.string_fragments aligned node size is_extensible
  type_of_type (Some (type.Text size is_extensible alphabet whole)) =
      text_type limits.fragments aligned node size is_extensible (slice_range ranges alphabet.from (alphabet.from + alphabet.count))
      (slice_range ranges whole.from (whole.from + whole.count))
  type_of_type (Some type.ObjectIdentifier) = contents_type limits.fragments aligned node IsObjectIdentifier
  type_of_type (Some type.RelativeIdentifier) = contents_type limits.fragments aligned node IsRelativeIdentifier
  type_of_type (Some type.Utf8String) = contents_type limits.string_fragments aligned node IsUtf8Text
  type_of_type (Some type.Real) = contents_type limits.fragments aligned node IsReal
  type_of_type (Some (type.Time kind)) = time_type limits.fragments aligned node (IsTime kind)
  type_of_type (Some (type.Sequence root is_extensible known)) = sequence_by_type is_extensible root known
  type_of_type (Some (type.SequenceOf size is_extensible item)) =
      sequence_of_by_type limits aligned E e members ranges defaults node is_extensible false size item
  type_of_type (Some (type.SetOf size is_extensible item)) =
      sequence_of_by_type limits aligned E e members ranges defaults node is_extensible true size item
  type_of_type (Some (type.Choice alternatives is_extensible known)) = choice_by_type is_extensible alternatives known
  type_of_type (Some (type.Open inner)) = open_type_type limits.fragments aligned node (E inner) (e inner)

pub type_at_type : (limits : Limits) (aligned : Bool) (nodes : List Node) (members : List Member) (ranges : List Range) (defaults : ℕ → ℕ → Option (List Bool)) (depth node : ℕ)
    → IsType (type_at limits aligned nodes members ranges defaults depth node)
type_at_type limits aligned nodes members ranges defaults zero node = record {
  good = invalid_type_good TooDeep misfit.TooDeep node;
  present = λ at. record { each = λ xs l p. absurd p };
}
type_at_type limits aligned nodes members ranges defaults (suc depth) node =
    type_of_type limits aligned (type_at limits aligned nodes members ranges defaults depth)
    (λ n. type_at_type limits aligned nodes members ranges defaults depth n) members ranges defaults node (slice_get nodes node)

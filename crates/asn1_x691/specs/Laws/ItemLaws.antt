-- Laws of SEQUENCE OF and SET OF.
use Rattle.std.proofs.Common.{ℕ, ◌+◌, ◌<◌, ◌≤◌, Bool, true, false, List, [], Option}
use Rattle.asn1_schema.specs.declared.tables.Length.{Length}
use Rattle.asn1_schema.specs.declared.tables.Length.TheVariants.{AtLeast, Between}
use Rattle.asn1_schema.specs.declared.tables.Range.{Range}
use Rattle.asn1_schema.specs.declared.tables.Member.{Member}
use Rattle.asn1_schema.specs.declared.misfit.MisfitKind.TheVariants as misfit
use Rattle.asn1_schema.specs.Pieces.{Count}
use Rattle.asn1_schema.specs.TypeEncodings.{TypeEncoding, several, except_type}
use Rattle.asn1_schema.specs.Laws.TypeLaws.{IsGoodEverywhere, several_good, several_by_bits_good, except_type_good}
use Rattle.asn1_schema.specs.Laws.HeaderLaws.{BeginsWith}
use Rattle.asn1_schema.specs.Laws.PermittedLaws.{permitted_sound, permitted_one, permitted_is}
use Rattle.asn1_x691.specs.declared.fault.FaultKind.{FaultKind}
use Rattle.asn1_x691.specs.declared.fault.FaultKind.TheVariants.{BelowLeast, InRoot, NotAscending, Unsupported}
use Rattle.asn1_x691.specs.Fields.{constrained, length_of}
use Rattle.asn1_x691.specs.Strings.{IsOfRoot, IsAddedSize}
use Rattle.asn1_x691.specs.Limits.{Limits, IsOffOctet, IsEmptyFragment}
use Rattle.asn1_x691.specs.Types.{IsMisplaced, count_from, IsAddedCount, length_at_least, added_length, in_order, items, fragment_items, items_at_least, sequence_of, added_items, sequence_of_by}
use Rattle.asn1_x691.specs.Laws.FieldLaws.{constrained_sound, length_sound}
use Rattle.asn1_x691.specs.Laws.OneEncodingLaws.{constrained_one, length_one}
use Rattle.asn1_x691.specs.Laws.StringLaws.{sizes_apart}
use Rattle.asn1_x691.specs.Laws.RangeLaws.{not_below}
use Rattle.asn1_x691.specs.Laws.GoodTypes.{IsType, part_type, by_bit_type}
use Rattle.asn1_x691.specs.Laws.ListTypeLaws.{list_type, list_begins}
use Rattle.asn1_x691.specs.Laws.PieceLaws.{count_alike, count_from_alike, count_is_not_added}

module _ (limits : Limits) (aligned : Bool) (E : ℕ → ℕ → TypeEncoding FaultKind) (e : (n : ℕ) → IsType (E n)) (members : List Member)
    (ranges : List Range) (defaults : ℕ → ℕ → Option (List Bool)) (node : ℕ) where
  in_order_good : (item : ℕ) (before : List Bool) → IsGoodEverywhere (in_order limits aligned E members ranges defaults node item before)
  in_order_good item before at =
      except_type_good (IsMisplaced aligned (E item) before at) NotAscending misfit.NotAscending node
      (except_type (λ list. IsOffOctet limits.sets_on_octets aligned before at) Unsupported misfit.Unsupported node (E item at))
      (except_type_good (λ list. IsOffOctet limits.sets_on_octets aligned before at) Unsupported misfit.Unsupported node (E item at)
      ((e item).good at))

  items_good : (is_set : Bool) (item n : ℕ) → IsGoodEverywhere (items limits aligned E members ranges defaults node is_set item n)
  items_good false item n = several_good (E item) (e item).good n
  items_good true item n =
      several_by_bits_good (in_order limits aligned E members ranges defaults node item) (λ before. in_order_good item before) [] n

  fragment_items_good : (item n : ℕ) → IsGoodEverywhere (fragment_items limits aligned E members ranges defaults node item n)
  fragment_items_good item n at =
      except_type_good (λ list. IsEmptyFragment limits.fragments_have_bits n list) Unsupported misfit.Unsupported node (several (E item) n at)
      (several_good (E item) (e item).good n at)

  at_least_type : (is_set : Bool) (least item : ℕ) → IsType (items_at_least limits aligned E members ranges defaults node is_set least item)
  at_least_type false least item =
      list_type (fragment_items limits aligned E members ranges defaults node item) aligned node (fragment_items_good item)
      limits.item_fragments (λ n. least ≤ n) (λ n. n < least) BelowLeast (not_below least)
  at_least_type true least item =
      part_type (length_at_least aligned least node) Count (λ n. items limits aligned E members ranges defaults node true item n) node
      (permitted_sound (λ n. least ≤ n) (λ n. n < least) BelowLeast node (length_of aligned node) (not_below least)
      (length_sound aligned node))
      (permitted_one (λ n. least ≤ n) (λ n. n < least) BelowLeast node (length_of aligned node) (length_one aligned node)) count_alike
      (λ x p. cc) (λ n. items_good true item n)

  sequence_of_type : (is_set : Bool) (size : Length) (item : ℕ) → IsType (sequence_of limits aligned E members ranges defaults node is_set size item)
  sequence_of_type is_set (AtLeast least) item = at_least_type is_set least item
  sequence_of_type is_set (Between least range) item =
      part_type (constrained aligned range node) (count_from least)
      (λ d. items limits aligned E members ranges defaults node is_set item (least + d)) node (constrained_sound aligned range node)
      (constrained_one aligned range node) (count_from_alike least) (λ x p. cc) (λ d. items_good is_set item (least + d))

  added_items_type : (is_set : Bool) (size : Length) (item : ℕ) → IsType (added_items limits aligned E members ranges defaults node is_set size item)
  added_items_type false size item =
      list_type (fragment_items limits aligned E members ranges defaults node item) aligned node (fragment_items_good item)
      limits.item_fragments (IsAddedSize size) (IsOfRoot size) InRoot (sizes_apart size)
  added_items_type true size item =
      part_type (added_length aligned size node) Count (λ n. items limits aligned E members ranges defaults node true item n) node
      (permitted_sound (IsAddedSize size) (IsOfRoot size) InRoot node (length_of aligned node) (sizes_apart size)
      (length_sound aligned node))
      (permitted_one (IsAddedSize size) (IsOfRoot size) InRoot node (length_of aligned node) (length_one aligned node)) count_alike
      (λ x p. cc) (λ n. items_good true item n)

  at_least_begins : (is_set : Bool) (least item at : ℕ)
      → BeginsWith (λ p. ¬ (IsAddedCount (AtLeast least) p)) (items_at_least limits aligned E members ranges defaults node is_set least item at)
  at_least_begins false least item at =
      list_begins (fragment_items limits aligned E members ranges defaults node item) aligned node limits.item_fragments (λ n. least ≤ n)
      (λ n. n < least) BelowLeast at (λ p. ¬ (IsAddedCount (AtLeast least) p)) (λ n p q. not_below least n p q)
  at_least_begins true least item at = record {
    each = λ xs l p. (
      Count p.value,
      p.after,
      p.is,
      not_below least p.value
          (permitted_is (λ n. least ≤ n) (λ n. n < least) BelowLeast node (length_of aligned node) at p.value p.front p.first),
    );
  }

  items_begin : (is_set : Bool) (size : Length) (item at : ℕ)
      → BeginsWith (λ p. ¬ (IsAddedCount size p)) (sequence_of limits aligned E members ranges defaults node is_set size item at)
  items_begin is_set (AtLeast least) item at = at_least_begins is_set least item at
  items_begin is_set (Between least range) item at = record {
    each = λ xs l p.
        (count_from least p.value, p.after, p.is, count_is_not_added aligned least range node at p.value p.front p.first);
  }

  added_begin : (is_set : Bool) (size : Length) (item at : ℕ)
      → BeginsWith (IsAddedCount size) (added_items limits aligned E members ranges defaults node is_set size item at)
  added_begin false size item at =
      list_begins (fragment_items limits aligned E members ranges defaults node item) aligned node limits.item_fragments (IsAddedSize size)
      (IsOfRoot size) InRoot at (IsAddedCount size) (λ n p. p)
  added_begin true size item at = record {
    each = λ xs l p. (
      Count p.value,
      p.after,
      p.is,
      permitted_is (IsAddedSize size) (IsOfRoot size) InRoot node (length_of aligned node) at p.value p.front p.first,
    );
  }

  pub sequence_of_by_type : (b is_set : Bool) (size : Length) (item : ℕ)
      → IsType (sequence_of_by limits aligned E members ranges defaults node b is_set size item)
  sequence_of_by_type false is_set size item = sequence_of_type is_set size item
  sequence_of_by_type true is_set size item =
      by_bit_type node (IsAddedCount size) (sequence_of limits aligned E members ranges defaults node is_set size item)
      (added_items limits aligned E members ranges defaults node is_set size item) (sequence_of_type is_set size item)
      (added_items_type is_set size item) (λ at. items_begin is_set size item at) (λ at. added_begin is_set size item at)

use Rattle.std.proofs.Common.{◌+◌, ◌-◌, ◌*◌, ◌%◌, ◌≤◌}
use Rattle.asn1_schema.specs.TypeEncodings.{several}
use Rattle.asn1_x691.specs.Types.{optional_count}
use Rattle.asn1_x691_encode.specs.Encoding.{types, numbered_in, components_in, additions_in}
use Rattle.asn1_x691_encode.specs.FragmentSteps.{whole_in}
use Rattle.asn1_x691_encode.specs.Components.{AreUnderway}
use Rattle.asn1_x691_encode.specs.AdditionSteps.{HasAdditions}
use Rattle.asn1_x691_encode.specs.ListSteps.{IsUnderway}
use Rattle.asn1_x691_encode.specs.SetSteps.{AreItems}
use Rattle.asn1_x691_encode.proofs.+encoding.Given as goal

abbrev pub decreases-encoder::encode_node : goal.decreases-encoder::encode_node
decreases-encoder::encode_node l = 32 * l.depth

abbrev pub decreases-list::encode_items : goal.decreases-list::encode_items
decreases-list::encode_items l = 32 * l.depth + 4

abbrev pub decreases-fragments::encode_items_below : goal.decreases-fragments::encode_items_below
decreases-fragments::encode_items_below l = 32 * l.depth + 5

abbrev pub decreases-fragments::encode_numbered_items : goal.decreases-fragments::encode_numbered_items
decreases-fragments::encode_numbered_items l = 32 * l.depth + 6

abbrev pub invariant-fragments::encode_numbered_items-loop-whole : goal.invariant-fragments::encode_numbered_items-loop-whole
invariant-fragments::encode_numbered_items-loop-whole l =
    IsUnderway l.context (numbered_in l.context l.depth l.node l.item l.count)
    (whole_in l.context l.depth l.node l.item l.whole (l.count % 65536)) l.initial.octets l.initial.state l.octets l.state

abbrev pub decreases-fragments::encode_numbered_items-loop-whole : goal.decreases-fragments::encode_numbered_items-loop-whole
decreases-fragments::encode_numbered_items-loop-whole l = l.whole

abbrev pub decreases-list::encode_at_least : goal.decreases-list::encode_at_least
decreases-list::encode_at_least l = 32 * l.depth + 7

abbrev pub decreases-list::encode_set_at_least : goal.decreases-list::encode_set_at_least
decreases-list::encode_set_at_least l = 32 * l.depth + 6

abbrev pub decreases-list::encode_added_set : goal.decreases-list::encode_added_set
decreases-list::encode_added_set l = 32 * l.depth + 6

abbrev pub decreases-list::encode_between : goal.decreases-list::encode_between
decreases-list::encode_between l = 32 * l.depth + 6

abbrev pub decreases-list::encode_list_of : goal.decreases-list::encode_list_of
decreases-list::encode_list_of l = 32 * l.depth + 8

abbrev pub decreases-list::encode_list : goal.decreases-list::encode_list
decreases-list::encode_list l = 32 * l.depth + 9

abbrev pub decreases-list::encode_added_list : goal.decreases-list::encode_added_list
decreases-list::encode_added_list l = 32 * l.depth + 7

abbrev pub decreases-list::encode_extensible_list : goal.decreases-list::encode_extensible_list
decreases-list::encode_extensible_list l = 32 * l.depth + 9

abbrev pub decreases-choice::encode_alternative : goal.decreases-choice::encode_alternative
decreases-choice::encode_alternative l = 32 * l.depth + 4

abbrev pub decreases-choice::encode_index : goal.decreases-choice::encode_index
decreases-choice::encode_index l = 32 * l.depth + 5

abbrev pub decreases-choice::encode_choice_of : goal.decreases-choice::encode_choice_of
decreases-choice::encode_choice_of l = 32 * l.depth + 6

abbrev pub decreases-choice::encode_choice : goal.decreases-choice::encode_choice
decreases-choice::encode_choice l = 32 * l.depth + 7

abbrev pub decreases-choice::encode_extensible_choice : goal.decreases-choice::encode_extensible_choice
decreases-choice::encode_extensible_choice l = 32 * l.depth + 8

abbrev pub invariant-list::encode_items-loop-left : goal.invariant-list::encode_items-loop-left
invariant-list::encode_items-loop-left l =
    IsUnderway l.context (several (types l.context l.depth l.item) l.count)
    (several (types l.context l.depth l.item) l.left) l.initial.octets l.initial.state l.octets l.state

abbrev pub decreases-list::encode_items-loop-left : goal.decreases-list::encode_items-loop-left
decreases-list::encode_items-loop-left l = l.left

abbrev pub decreases-sequence::encode_optional : goal.decreases-sequence::encode_optional
decreases-sequence::encode_optional l = 32 * l.depth + 4

abbrev pub decreases-sequence::encode_component : goal.decreases-sequence::encode_component
decreases-sequence::encode_component l = 32 * l.depth + 5

abbrev pub decreases-sequence::encode_root : goal.decreases-sequence::encode_root
decreases-sequence::encode_root l = 32 * l.depth + 6

abbrev pub decreases-sequence::encode_sequence : goal.decreases-sequence::encode_sequence
decreases-sequence::encode_sequence l = 32 * l.depth + 7

abbrev pub invariant-sequence::encode_root-loop-index : goal.invariant-sequence::encode_root-loop-index
invariant-sequence::encode_root-loop-index l =
    let members = l.context.tables.members.now in
    let left = l.root.count - l.index in
    let from = l.root.from + l.index in
    (l.index ≤ l.root.count)
    × (AreUnderway l.context (components_in l.context l.depth l.node l.root.count l.root.from)
    (components_in l.context l.depth l.node left from) (optional_count members l.root.count l.root.from)
    (optional_count members left from) l.fn.octets l.fn.state.at l.initial.state l.octets l.state l.head)

abbrev pub decreases-sequence::encode_root-loop-index : goal.decreases-sequence::encode_root-loop-index
decreases-sequence::encode_root-loop-index l = l.root.count - l.index

abbrev pub decreases-open_type::encode_octets : goal.decreases-open_type::encode_octets
decreases-open_type::encode_octets l = 32 * l.depth + 4

abbrev pub decreases-open_type::encode_open : goal.decreases-open_type::encode_open
decreases-open_type::encode_open l = 32 * l.depth + 6

abbrev pub decreases-open_type::encode_open_type : goal.decreases-open_type::encode_open_type
decreases-open_type::encode_open_type l = 32 * l.depth + 5

abbrev pub decreases-additions::encode_known : goal.decreases-additions::encode_known
decreases-additions::encode_known l = 32 * l.depth + 6

abbrev pub decreases-additions::encode_addition : goal.decreases-additions::encode_addition
decreases-additions::encode_addition l = 32 * l.depth + 7

abbrev pub decreases-additions::encode_optional_addition : goal.decreases-additions::encode_optional_addition
decreases-additions::encode_optional_addition l = 32 * l.depth + 8

abbrev pub decreases-additions::encode_present : goal.decreases-additions::encode_present
decreases-additions::encode_present l = 32 * l.depth + 9

abbrev pub decreases-additions::encode_counted : goal.decreases-additions::encode_counted
decreases-additions::encode_counted l = 32 * l.depth + 10

abbrev pub decreases-additions::encode_extension : goal.decreases-additions::encode_extension
decreases-additions::encode_extension l = 32 * l.depth + 11

abbrev pub decreases-sequence::encode_extended : goal.decreases-sequence::encode_extended
decreases-sequence::encode_extended l = 32 * l.depth + 12

abbrev pub decreases-sequence::encode_extensible_sequence : goal.decreases-sequence::encode_extensible_sequence
decreases-sequence::encode_extensible_sequence l = 32 * l.depth + 13

abbrev pub decreases-added_choice::encode_added : goal.decreases-added_choice::encode_added
decreases-added_choice::encode_added l = 32 * l.depth + 7

abbrev pub invariant-additions::encode_present-loop-index : goal.invariant-additions::encode_present-loop-index
invariant-additions::encode_present-loop-index l =
    let left = l.count - l.index in
    (l.index ≤ l.count)
    × (HasAdditions l.context (additions_in l.context l.depth l.node l.count l.known.count l.known.from)
    (additions_in l.context l.depth l.node left (l.known.count - l.index) (l.known.from + l.index)) l.count left l.fn.octets
    l.fn.state.at l.initial.state l.octets l.state l.head l.has_one)

abbrev pub decreases-additions::encode_present-loop-index : goal.decreases-additions::encode_present-loop-index
decreases-additions::encode_present-loop-index l = l.count - l.index

abbrev pub decreases-value::is_other : goal.decreases-value::is_other
decreases-value::is_other l = 32 * l.depth + 1

abbrev pub decreases-value::encode_other_than : goal.decreases-value::encode_other_than
decreases-value::encode_other_than l = 32 * l.depth + 2

abbrev pub decreases-value::encode_value : goal.decreases-value::encode_value
decreases-value::encode_value l = 32 * l.depth + 3

abbrev pub decreases-set::are_ordered_alone : goal.decreases-set::are_ordered_alone
decreases-set::are_ordered_alone l = 32 * l.depth + 1

abbrev pub decreases-set::encode_next : goal.decreases-set::encode_next
decreases-set::encode_next l = 32 * l.depth + 2

abbrev pub decreases-set::encode_item : goal.decreases-set::encode_item
decreases-set::encode_item l = 32 * l.depth + 3

abbrev pub decreases-set::encode_set_items : goal.decreases-set::encode_set_items
decreases-set::encode_set_items l = 32 * l.depth + 4

abbrev pub decreases-list::encode_items_by : goal.decreases-list::encode_items_by
decreases-list::encode_items_by l = 32 * l.depth + 5

abbrev pub decreases-list::encode_list_by : goal.decreases-list::encode_list_by
decreases-list::encode_list_by l = 32 * l.depth + 10

abbrev pub invariant-set::encode_set_items-loop-left : goal.invariant-set::encode_set_items-loop-left
invariant-set::encode_set_items-loop-left l =
    AreItems l.context l.depth l.node l.item l.count l.left l.previous l.initial.octets l.initial.state l.octets l.state

abbrev pub decreases-set::encode_set_items-loop-left : goal.decreases-set::encode_set_items-loop-left
decreases-set::encode_set_items-loop-left l = l.left

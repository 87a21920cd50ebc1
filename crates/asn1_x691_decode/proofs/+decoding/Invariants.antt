use Rattle.std.proofs.Common.{◌≡◌, ◌≤◌, ◌*◌, ◌+◌, ◌-◌, [], length}
use Rattle.asn1_bits.specs.Bits.{bits}
use Rattle.asn1_schema.specs.PiecesOfParts.{bits_at}
use Rattle.asn1_x691_fields.specs.Outcomes.{IsWithin, IsMoved}
use Rattle.asn1_x691_decode.specs.Decoding.{most_item_fragments, numbered_in, components_in, additions_in, items_in, set_items_in, IsItemBefore, told_by}
use Rattle.asn1_x691_decode.proofs.Steps.{IsUnderway}
use Rattle.asn1_x691_decode.proofs.FragmentSteps.{AreUnderway}
use Rattle.asn1_x691_decode.proofs.+decoding.Given as goal

abbrev pub decreases-decoder::decode_node : goal.decreases-decoder::decode_node
decreases-decoder::decode_node l = 16 * l.depth

abbrev pub decreases-open_type::decode_value : goal.decreases-open_type::decode_value
decreases-open_type::decode_value l = 16 * l.depth + 2

abbrev pub decreases-open_type::decode_other_than : goal.decreases-open_type::decode_other_than
decreases-open_type::decode_other_than l = 16 * l.depth + 1

abbrev pub decreases-sequence::decode_component : goal.decreases-sequence::decode_component
decreases-sequence::decode_component l = 16 * l.depth + 3

abbrev pub decreases-open_type::decode_complete : goal.decreases-open_type::decode_complete
decreases-open_type::decode_complete l = 16 * l.depth + 3

abbrev pub decreases-open_type::decode_open : goal.decreases-open_type::decode_open
decreases-open_type::decode_open l = 16 * l.depth + 5

abbrev pub decreases-open_type::decode_enclosed : goal.decreases-open_type::decode_enclosed
decreases-open_type::decode_enclosed l = 16 * l.depth + 4

abbrev pub decreases-additions::decode_known : goal.decreases-additions::decode_known
decreases-additions::decode_known l = 16 * l.depth + 5

abbrev pub decreases-additions::decode_addition : goal.decreases-additions::decode_addition
decreases-additions::decode_addition l = 16 * l.depth + 6

abbrev pub decreases-additions::decode_optional_addition : goal.decreases-additions::decode_optional_addition
decreases-additions::decode_optional_addition l = 16 * l.depth + 7

abbrev pub decreases-additions::decode_additions : goal.decreases-additions::decode_additions
decreases-additions::decode_additions l = 16 * l.depth + 8

abbrev pub decreases-additions::decode_extension : goal.decreases-additions::decode_extension
decreases-additions::decode_extension l = 16 * l.depth + 9

abbrev pub decreases-choice::decode_alternative : goal.decreases-choice::decode_alternative
decreases-choice::decode_alternative l = 16 * l.depth + 1

abbrev pub decreases-choice::decode_added : goal.decreases-choice::decode_added
decreases-choice::decode_added l = 16 * l.depth + 6

abbrev pub decreases-choice::decode_choice : goal.decreases-choice::decode_choice
decreases-choice::decode_choice l = 16 * l.depth + 7

abbrev pub decreases-sequence::decode_components : goal.decreases-sequence::decode_components
decreases-sequence::decode_components l = 16 * l.depth + 5

abbrev pub decreases-sequence::decode_root : goal.decreases-sequence::decode_root
decreases-sequence::decode_root l = 16 * l.depth + 6

abbrev pub decreases-sequence::decode_sequence : goal.decreases-sequence::decode_sequence
decreases-sequence::decode_sequence l = 16 * l.depth + 10

abbrev pub invariant-sequence::decode_components-loop-index : goal.invariant-sequence::decode_components-loop-index
invariant-sequence::decode_components-loop-index l =
    IsWithin (bits l.context.octets.now) l.state × IsMoved (bits l.context.octets.now) l.initial.state l.state
    × (l.presence.at + l.presence.left ≤ 8 * length l.context.octets.now)
    × IsUnderway l.context
    (λ at. (components_in l.context l.depth l.node l.root.count l.root.from at).after
    (told_by (bits l.context.octets.now) l.initial.presence))
    (λ at. (components_in l.context l.depth l.node (l.root.count - l.index) (l.root.from + l.index) at).after
    (told_by (bits l.context.octets.now) l.presence))
    l.initial.state l.state l.initial.parts l.parts

abbrev pub invariant-additions::decode_additions-loop-index : goal.invariant-additions::decode_additions-loop-index
invariant-additions::decode_additions-loop-index l =
    IsWithin (bits l.context.octets.now) l.state × IsMoved (bits l.context.octets.now) l.initial.state l.state
    × (l.presence.at + l.presence.left ≤ 8 * length l.context.octets.now)
    × (l.presence.left + l.index ≡ l.count)
    × IsUnderway l.context
    (λ at. (additions_in l.context l.depth l.node l.count l.known.count l.known.from at).after
    (told_by (bits l.context.octets.now) l.initial.presence))
    (λ at. (additions_in l.context l.depth l.node l.presence.left (l.known.count - l.index) (l.known.from + l.index) at).after
    (told_by (bits l.context.octets.now) l.presence))
    l.initial.state l.state l.initial.parts l.parts

abbrev pub decreases-list::decode_items : goal.decreases-list::decode_items
decreases-list::decode_items l = 16 * l.depth + 1

abbrev pub decreases-list::decode_root_list : goal.decreases-list::decode_root_list
decreases-list::decode_root_list l = 16 * l.depth + 7

abbrev pub decreases-list::decode_added_list : goal.decreases-list::decode_added_list
decreases-list::decode_added_list l = 16 * l.depth + 6

abbrev pub decreases-list::decode_list : goal.decreases-list::decode_list
decreases-list::decode_list l = 16 * l.depth + 8

abbrev pub invariant-list::decode_items-loop-left : goal.invariant-list::decode_items-loop-left
invariant-list::decode_items-loop-left l =
    IsWithin (bits l.context.octets.now) l.state × IsMoved (bits l.context.octets.now) l.initial.state l.state
    × IsUnderway l.context (λ at. (items_in l.context l.depth l.item l.initial.left at).encoding)
    (λ at. (items_in l.context l.depth l.item l.left at).encoding)
    l.initial.state l.state l.initial.parts l.parts

abbrev pub decreases-list::decode_items-loop-left : goal.decreases-list::decode_items-loop-left
decreases-list::decode_items-loop-left l = l.left

abbrev pub decreases-list::decode_each : goal.decreases-list::decode_each
decreases-list::decode_each l = 16 * l.depth + 3

abbrev pub decreases-set::decode_set_items : goal.decreases-set::decode_set_items
decreases-set::decode_set_items l = 16 * l.depth + 2

abbrev pub decreases-set::decode_item : goal.decreases-set::decode_item
decreases-set::decode_item l = 16 * l.depth + 1

abbrev pub invariant-set::decode_set_items-loop-left : goal.invariant-set::decode_set_items-loop-left
invariant-set::decode_set_items-loop-left l =
    IsWithin (bits l.context.octets.now) l.state × IsMoved (bits l.context.octets.now) l.initial.state l.state
    × IsItemBefore l.context l.depth l.item l.before l.state
    × IsUnderway l.context (λ at. (set_items_in l.context l.depth l.node l.item [] l.initial.left at).encoding)
    (λ at. (set_items_in l.context l.depth l.node l.item
    (bits_at (bits l.context.octets.now) l.before (l.state.at - l.before)) l.left at).encoding)
    l.initial.state l.state l.initial.parts l.parts

abbrev pub decreases-set::decode_set_items-loop-left : goal.decreases-set::decode_set_items-loop-left
decreases-set::decode_set_items-loop-left l = l.left

abbrev pub decreases-fragments::decode_fragment : goal.decreases-fragments::decode_fragment
decreases-fragments::decode_fragment l = 16 * l.depth + 2

abbrev pub decreases-fragments::decode_last_items : goal.decreases-fragments::decode_last_items
decreases-fragments::decode_last_items l = 16 * l.depth + 3

abbrev pub decreases-fragments::decode_numbered_items : goal.decreases-fragments::decode_numbered_items
decreases-fragments::decode_numbered_items l = 16 * l.depth + 4

abbrev pub decreases-fragments::decode_numbered_list : goal.decreases-fragments::decode_numbered_list
decreases-fragments::decode_numbered_list l = 16 * l.depth + 5

abbrev pub decreases-list::decode_at_least : goal.decreases-list::decode_at_least
decreases-list::decode_at_least l = 16 * l.depth + 6

abbrev pub decreases-list::decode_set_at_least : goal.decreases-list::decode_set_at_least
decreases-list::decode_set_at_least l = 16 * l.depth + 5

abbrev pub decreases-list::decode_added_set : goal.decreases-list::decode_added_set
decreases-list::decode_added_set l = 16 * l.depth + 5

abbrev pub invariant-fragments::decode_numbered_items-loop-whole : goal.invariant-fragments::decode_numbered_items-loop-whole
invariant-fragments::decode_numbered_items-loop-whole l =
    IsWithin (bits l.context.octets.now) l.state × IsMoved (bits l.context.octets.now) l.initial.state l.state
    × (l.whole ≤ 4294967296)
    × AreUnderway l.context (numbered_in l.context l.depth l.node l.item most_item_fragments)
    (numbered_in l.context l.depth l.node l.item (most_item_fragments - l.whole)) l.initial.state l.state l.initial.parts l.parts
    (65536 * l.whole)

abbrev pub decreases-fragments::decode_numbered_items-loop-whole : goal.decreases-fragments::decode_numbered_items-loop-whole
decreases-fragments::decode_numbered_items-loop-whole l = 4294967296 - l.whole

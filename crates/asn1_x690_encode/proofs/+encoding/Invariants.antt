use Rattle.std.proofs.Common.{◌+◌, ◌*◌, ◌^◌, length}
use Rattle.asn1_x690_encode.specs.Encoding.{inner_size, element_in}
use Rattle.asn1_x690_encode.specs.Kinds.{rank_of, size_of}
use Rattle.asn1_x690_encode.specs.ListSteps.{AreItems}
use Rattle.asn1_x690_encode.specs.SetSteps.{AreSetItems}
use Rattle.asn1_x690_encode.proofs.+encoding.Given as goal

abbrev pub decreases-node::encode_node : goal.decreases-node::encode_node
decreases-node::encode_node l = 2 ^ 80 * l.depth + 1

abbrev pub decreases-node::encode_node_here : goal.decreases-node::encode_node_here
decreases-node::encode_node_here l = 2 ^ 80 * l.depth

abbrev pub decreases-element::encode_tagged : goal.decreases-element::encode_tagged
decreases-element::encode_tagged l = 2 ^ 80 * l.depth + 2 ^ 70 + 64 * length l.tags.now + 3

abbrev pub decreases-element::encode_tagged_within : goal.decreases-element::encode_tagged_within
decreases-element::encode_tagged_within l = 2 ^ 80 * l.depth + 2 ^ 70 + 64 * length l.tags.now + 4

abbrev pub decreases-element::encode_around : goal.decreases-element::encode_around
decreases-element::encode_around l = 2 ^ 80 * l.depth + 2 ^ 70 + 64 * length l.tags.now + 3

abbrev pub decreases-element::encode_enclosed : goal.decreases-element::encode_enclosed
decreases-element::encode_enclosed l = 2 ^ 80 * l.depth + 2 ^ 70 + 64 * inner_size l.inner + 60

abbrev pub decreases-element::encode_body : goal.decreases-element::encode_body
decreases-element::encode_body l = 2 ^ 80 * l.depth + 2 ^ 70 + 64 * inner_size l.inner + 59

abbrev pub decreases-element::encode_body_after_one : goal.decreases-element::encode_body_after_one
decreases-element::encode_body_after_one l = 2 ^ 80 * l.depth + 2 ^ 70 + 64 * inner_size l.inner + 58

abbrev pub decreases-element::encode_body_by_lengths : goal.decreases-element::encode_body_by_lengths
decreases-element::encode_body_by_lengths l = 2 ^ 80 * l.depth + 2 ^ 70 + 64 * inner_size l.inner + 58

abbrev pub decreases-element::encode_body_after : goal.decreases-element::encode_body_after
decreases-element::encode_body_after l = 2 ^ 80 * l.depth + 2 ^ 70 + 64 * inner_size l.inner + 20 + 3 * l.reserved

abbrev pub decreases-element::encode_body_again : goal.decreases-element::encode_body_again
decreases-element::encode_body_again l = 2 ^ 80 * l.depth + 2 ^ 70 + 64 * inner_size l.inner + 24

abbrev pub decreases-element::encode_inner : goal.decreases-element::encode_inner
decreases-element::encode_inner l = 2 ^ 80 * l.depth + 2 ^ 70 + 64 * inner_size l.inner + 9

abbrev pub decreases-node::encode_headed : goal.decreases-node::encode_headed
decreases-node::encode_headed l = 2 ^ 80 * l.depth + 2 ^ 70 + 2

abbrev pub decreases-node::encode_contents : goal.decreases-node::encode_contents
decreases-node::encode_contents l = 2 ^ 80 * l.depth + 2 ^ 70 + 2

abbrev pub decreases-sequence::encode_sequence : goal.decreases-sequence::encode_sequence
decreases-sequence::encode_sequence l = 2 ^ 80 * l.depth + 2 ^ 70 + 1

abbrev pub decreases-sequence::encode_extensible_sequence : goal.decreases-sequence::encode_extensible_sequence
decreases-sequence::encode_extensible_sequence l = 2 ^ 80 * l.depth + 2 ^ 70 + 1

abbrev pub decreases-sequence::encode_components : goal.decreases-sequence::encode_components
decreases-sequence::encode_components l = 2 ^ 80 * l.depth + 2 ^ 50 + size_of l.tail.now + 4 * l.count + 1

abbrev pub decreases-sequence::encode_first : goal.decreases-sequence::encode_first
decreases-sequence::encode_first l = 2 ^ 80 * l.depth + 2 ^ 50 + size_of l.tail.now + 4 * l.count

abbrev pub decreases-sequence::encode_required : goal.decreases-sequence::encode_required
decreases-sequence::encode_required l = 2 ^ 80 * l.depth + 2 ^ 50 + size_of l.tail.now + 4 * l.count + 2

abbrev pub decreases-sequence::encode_optional : goal.decreases-sequence::encode_optional
decreases-sequence::encode_optional l = 2 ^ 80 * l.depth + 2 ^ 50 + size_of l.tail.now + 4 * l.count + 2

abbrev pub decreases-sequence::encode_tail : goal.decreases-sequence::encode_tail
decreases-sequence::encode_tail l = 2 ^ 80 * l.depth + 2 ^ 50 + size_of l.tail.now

abbrev pub decreases-additions::encode_additions : goal.decreases-additions::encode_additions
decreases-additions::encode_additions l = 2 ^ 80 * l.depth + 2 ^ 50 + 2 ^ 69

abbrev pub decreases-additions::encode_known : goal.decreases-additions::encode_known
decreases-additions::encode_known l = 2 ^ 80 * l.depth + 2 ^ 50 + 2 ^ 36 * l.left.rows.count + 1

abbrev pub decreases-additions::encode_addition : goal.decreases-additions::encode_addition
decreases-additions::encode_addition l = 2 ^ 80 * l.depth + 2 ^ 50 + 2 ^ 36 * l.left.rows.count

abbrev pub decreases-group::encode_group : goal.decreases-group::encode_group
decreases-group::encode_group l = 2 ^ 80 * l.depth + 2 ^ 50 + 2 ^ 36 * l.others.rows.count + 2 ^ 35 + 1

abbrev pub decreases-group::encode_grouped : goal.decreases-group::encode_grouped
decreases-group::encode_grouped l = 2 ^ 80 * l.depth + 2 ^ 50 + 2 ^ 36 * l.others.rows.count + 2 ^ 35

abbrev pub decreases-value::encode_value : goal.decreases-value::encode_value
decreases-value::encode_value l = 2 ^ 80 * l.depth + 2 ^ 40

abbrev pub decreases-value::encode_other_than : goal.decreases-value::encode_other_than
decreases-value::encode_other_than l = 2 ^ 80 * l.depth + 2 ^ 30

abbrev pub decreases-value::is_other : goal.decreases-value::is_other
decreases-value::is_other l = 2 ^ 80 * l.depth + 2 ^ 20

abbrev pub decreases-list::encode_list : goal.decreases-list::encode_list
decreases-list::encode_list l = 2 ^ 80 * l.depth + 2 ^ 70 + 1

abbrev pub decreases-list::encode_items : goal.decreases-list::encode_items
decreases-list::encode_items l = 2 ^ 80 * l.depth + 2 ^ 60

abbrev pub decreases-list::encode_items_by : goal.decreases-list::encode_items_by
decreases-list::encode_items_by l = 2 ^ 80 * l.depth + 2 ^ 70

abbrev pub decreases-set::encode_set_items : goal.decreases-set::encode_set_items
decreases-set::encode_set_items l = 2 ^ 80 * l.depth + 2 ^ 60

abbrev pub decreases-set::encode_item : goal.decreases-set::encode_item
decreases-set::encode_item l = 2 ^ 80 * l.depth + 2 ^ 50

abbrev pub decreases-set::encode_next : goal.decreases-set::encode_next
decreases-set::encode_next l = 2 ^ 80 * l.depth + 2 ^ 40

abbrev pub decreases-set::are_ordered_alone : goal.decreases-set::are_ordered_alone
decreases-set::are_ordered_alone l = 2 ^ 80 * l.depth + 2 ^ 30

abbrev pub invariant-set::encode_set_items-loop-left : goal.invariant-set::encode_set_items-loop-left
invariant-set::encode_set_items-loop-left l =
    AreSetItems l.context l.depth l.node l.item l.count l.left l.previous l.initial.octets l.initial.state l.octets l.state

abbrev pub decreases-set::encode_set_items-loop-left : goal.decreases-set::encode_set_items-loop-left
decreases-set::encode_set_items-loop-left l = l.left

abbrev pub invariant-list::encode_items-loop-left : goal.invariant-list::encode_items-loop-left
invariant-list::encode_items-loop-left l =
    AreItems (λ before. element_in l.context l.depth l.item) l.context l.count l.left l.initial.octets l.initial.state l.octets l.state

abbrev pub decreases-list::encode_items-loop-left : goal.decreases-list::encode_items-loop-left
decreases-list::encode_items-loop-left l = l.left

abbrev pub decreases-choice::encode_alternatives : goal.decreases-choice::encode_alternatives
decreases-choice::encode_alternatives l = 2 ^ 80 * l.depth + 2 ^ 60 + 2 ^ 50 * rank_of l.others + l.count + 1

abbrev pub decreases-choice::encode_others : goal.decreases-choice::encode_others
decreases-choice::encode_others l = 2 ^ 80 * l.depth + 2 ^ 60 + 2 ^ 50 * rank_of l.others

abbrev pub decreases-choice::encode_choice : goal.decreases-choice::encode_choice
decreases-choice::encode_choice l = 2 ^ 80 * l.depth + 2 ^ 70 + 1

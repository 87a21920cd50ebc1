-- The answers, by the module that they are of.
mod Elements
mod Nodes
mod Sequences
mod Extensions
mod Additions
mod Groups
mod Choices
mod Lists
mod Sets
mod Values
use Rattle.asn1_x690_encode.proofs.+encoding.Answers.Elements as elements
use Rattle.asn1_x690_encode.proofs.+encoding.Answers.Nodes as nodes
use Rattle.asn1_x690_encode.proofs.+encoding.Answers.Sequences as sequences
use Rattle.asn1_x690_encode.proofs.+encoding.Answers.Extensions as extensions
use Rattle.asn1_x690_encode.proofs.+encoding.Answers.Additions as additions
use Rattle.asn1_x690_encode.proofs.+encoding.Answers.Groups as groups
use Rattle.asn1_x690_encode.proofs.+encoding.Answers.Choices as choices
use Rattle.asn1_x690_encode.proofs.+encoding.Answers.Lists as lists
use Rattle.asn1_x690_encode.proofs.+encoding.Answers.Sets as sets
use Rattle.asn1_x690_encode.proofs.+encoding.Answers.Values as values
use Rattle.asn1_x690_encode.proofs.+encoding.Goals as goal

pub element::encode_around-returns-in-Some : goal.element::encode_around-returns-in-Some
element::encode_around-returns-in-Some = elements.encode_around-returns-in-Some

pub element::encode_tagged-returns-else-is_empty : goal.element::encode_tagged-returns-else-is_empty
element::encode_tagged-returns-else-is_empty = elements.encode_tagged-returns-else-is_empty

pub element::encode_inner-returns-in-Tagged : goal.element::encode_inner-returns-in-Tagged
element::encode_inner-returns-in-Tagged = elements.encode_inner-returns-in-Tagged

pub element::encode_inner-returns-in-Around : goal.element::encode_inner-returns-in-Around
element::encode_inner-returns-in-Around = elements.encode_inner-returns-in-Around

pub element::encode_body_after-returns-then-count-ge-MOST : goal.element::encode_body_after-returns-then-count-ge-MOST
element::encode_body_after-returns-then-count-ge-MOST = elements.encode_body_after-returns-then-count-ge-MOST

pub element::encode_body_after-returns : goal.element::encode_body_after-returns
element::encode_body_after-returns = elements.encode_body_after-returns

pub element::encode_body_after-returns-then-not-encode_inner : goal.element::encode_body_after-returns-then-not-encode_inner
element::encode_body_after-returns-then-not-encode_inner = elements.encode_body_after-returns-then-not-encode_inner

pub element::encode_enclosed-returns-in-Some : goal.element::encode_enclosed-returns-in-Some
element::encode_enclosed-returns-in-Some = elements.encode_enclosed-returns-in-Some

pub element::encode_body_after-returns-then-is_cut : goal.element::encode_body_after-returns-then-is_cut
element::encode_body_after-returns-then-is_cut = elements.encode_body_after-returns-then-is_cut

pub element::encode_body_after_one-returns-then-bits-ge-MOST : goal.element::encode_body_after_one-returns-then-bits-ge-MOST
element::encode_body_after_one-returns-then-bits-ge-MOST = elements.encode_body_after_one-returns-then-bits-ge-MOST

pub element::encode_body_after_one-returns : goal.element::encode_body_after_one-returns
element::encode_body_after_one-returns = elements.encode_body_after_one-returns

pub element::encode_body_after_one-returns-then-not-encode_inner : goal.element::encode_body_after_one-returns-then-not-encode_inner
element::encode_body_after_one-returns-then-not-encode_inner = elements.encode_body_after_one-returns-then-not-encode_inner

pub node::encode_node_here-returns-then-is_headed : goal.node::encode_node_here-returns-then-is_headed
node::encode_node_here-returns-then-is_headed = nodes.encode_node_here-returns-then-is_headed

pub node::encode_node_here-returns : goal.node::encode_node_here-returns
node::encode_node_here-returns = nodes.encode_node_here-returns

pub node::encode_contents-returns-else-is_extensible : goal.node::encode_contents-returns-else-is_extensible
node::encode_contents-returns-else-is_extensible = nodes.encode_contents-returns-else-is_extensible

pub node::encode_contents-returns-in-SequenceOf : goal.node::encode_contents-returns-in-SequenceOf
node::encode_contents-returns-in-SequenceOf = nodes.encode_contents-returns-in-SequenceOf

pub node::encode_contents-returns-then-is_extensible : goal.node::encode_contents-returns-then-is_extensible
node::encode_contents-returns-then-is_extensible = nodes.encode_contents-returns-then-is_extensible

pub node::encode_contents-returns-in-SetOf : goal.node::encode_contents-returns-in-SetOf
node::encode_contents-returns-in-SetOf = nodes.encode_contents-returns-in-SetOf

pub node::encode_headed-returns-then-types : goal.node::encode_headed-returns-then-types
node::encode_headed-returns-then-types = nodes.encode_headed-returns-then-types

pub node::encode_headed-returns-in-Choice : goal.node::encode_headed-returns-in-Choice
node::encode_headed-returns-in-Choice = nodes.encode_headed-returns-in-Choice

pub sequence::encode_components-returns-then-count-eq0 : goal.sequence::encode_components-returns-then-count-eq0
sequence::encode_components-returns-then-count-eq0 = sequences.encode_components-returns-then-count-eq0

pub sequence::encode_first-returns-then-is_required : goal.sequence::encode_first-returns-then-is_required
sequence::encode_first-returns-then-is_required = sequences.encode_first-returns-then-is_required

pub sequence::encode_first-returns : goal.sequence::encode_first-returns
sequence::encode_first-returns = sequences.encode_first-returns

pub sequence::encode_first-returns-in_default : goal.sequence::encode_first-returns-in_default
sequence::encode_first-returns-in_default = sequences.encode_first-returns-in_default

pub sequence::encode_first-returns-in_default-first_tags_at : goal.sequence::encode_first-returns-in_default-first_tags_at
sequence::encode_first-returns-in_default-first_tags_at = sequences.encode_first-returns-in_default-first_tags_at

pub sequence::encode_first-overflow_add-from : goal.sequence::encode_first-overflow_add-from
sequence::encode_first-overflow_add-from = sequences.encode_first-overflow_add-from

pub sequence::encode_first-overflow_add-from-2 : goal.sequence::encode_first-overflow_add-from-2
sequence::encode_first-overflow_add-from-2 = sequences.encode_first-overflow_add-from-2

pub sequence::encode_tail-returns-in-End : goal.sequence::encode_tail-returns-in-End
sequence::encode_tail-returns-in-End = extensions.encode_tail-returns-in-End

pub sequence::encode_tail-returns-then-not-is_extended : goal.sequence::encode_tail-returns-then-not-is_extended
sequence::encode_tail-returns-then-not-is_extended = extensions.encode_tail-returns-then-not-is_extended

pub sequence::encode_tail-returns-else-not-is_extended : goal.sequence::encode_tail-returns-else-not-is_extended
sequence::encode_tail-returns-else-not-is_extended = extensions.encode_tail-returns-else-not-is_extended

pub sequence::encode_tail-returns-in-Additions : goal.sequence::encode_tail-returns-in-Additions
sequence::encode_tail-returns-in-Additions = extensions.encode_tail-returns-in-Additions

pub sequence::encode_required-encode_components-requires : goal.sequence::encode_required-encode_components-requires
sequence::encode_required-encode_components-requires = sequences.encode_required-encode_components-requires

pub sequence::encode_required-returns-in_err-encode_components : goal.sequence::encode_required-returns-in_err-encode_components
sequence::encode_required-returns-in_err-encode_components = sequences.encode_required-returns-in_err-encode_components

pub sequence::encode_required-returns : goal.sequence::encode_required-returns
sequence::encode_required-returns = sequences.encode_required-returns

pub sequence::encode_optional-returns-then-begins_with : goal.sequence::encode_optional-returns-then-begins_with
sequence::encode_optional-returns-then-begins_with = sequences.encode_optional-returns-then-begins_with

pub sequence::encode_optional-returns-then-is_absent : goal.sequence::encode_optional-returns-then-is_absent
sequence::encode_optional-returns-then-is_absent = sequences.encode_optional-returns-then-is_absent

pub sequence::encode_optional-returns-in_err-found : goal.sequence::encode_optional-returns-in_err-found
sequence::encode_optional-returns-in_err-found = sequences.encode_optional-returns-in_err-found

pub sequence::encode_optional-encode_components-requires-2 : goal.sequence::encode_optional-encode_components-requires-2
sequence::encode_optional-encode_components-requires-2 = sequences.encode_optional-encode_components-requires-2

pub sequence::encode_optional-returns-in_err-encode_components : goal.sequence::encode_optional-returns-in_err-encode_components
sequence::encode_optional-returns-in_err-encode_components = sequences.encode_optional-returns-in_err-encode_components

pub sequence::encode_optional-returns-then-not-has_tag : goal.sequence::encode_optional-returns-then-not-has_tag
sequence::encode_optional-returns-then-not-has_tag = sequences.encode_optional-returns-then-not-has_tag

pub sequence::encode_optional-returns : goal.sequence::encode_optional-returns
sequence::encode_optional-returns = sequences.encode_optional-returns

pub sequence::encode_sequence-returns-then-not-is_sequence : goal.sequence::encode_sequence-returns-then-not-is_sequence
sequence::encode_sequence-returns-then-not-is_sequence = sequences.encode_sequence-returns-then-not-is_sequence

pub sequence::encode_sequence-overflow_add-state : goal.sequence::encode_sequence-overflow_add-state
sequence::encode_sequence-overflow_add-state = sequences.encode_sequence-overflow_add-state

pub sequence::encode_sequence-returns-in-None : goal.sequence::encode_sequence-returns-in-None
sequence::encode_sequence-returns-in-None = sequences.encode_sequence-returns-in-None

pub sequence::encode_sequence-returns-else-not-is_sequence : goal.sequence::encode_sequence-returns-else-not-is_sequence
sequence::encode_sequence-returns-else-not-is_sequence = sequences.encode_sequence-returns-else-not-is_sequence

pub sequence::encode_extensible_sequence-returns-in-None-extended_by : goal.sequence::encode_extensible_sequence-returns-in-None-extended_by
sequence::encode_extensible_sequence-returns-in-None-extended_by = extensions.encode_extensible_sequence-returns-in-None-extended_by

pub sequence::encode_extensible_sequence-returns-in-Some-extended_by : goal.sequence::encode_extensible_sequence-returns-in-Some-extended_by
sequence::encode_extensible_sequence-returns-in-Some-extended_by = extensions.encode_extensible_sequence-returns-in-Some-extended_by

pub additions::encode_additions-returns-in-None : goal.additions::encode_additions-returns-in-None
additions::encode_additions-returns-in-None = additions.encode_additions-returns-in-None

pub additions::encode_additions-returns-in-None-additions_of : goal.additions::encode_additions-returns-in-None-additions_of
additions::encode_additions-returns-in-None-additions_of = additions.encode_additions-returns-in-None-additions_of

pub additions::encode_additions-returns-in_err-begins-in-Some-additions_of : goal.additions::encode_additions-returns-in_err-begins-in-Some-additions_of
additions::encode_additions-returns-in_err-begins-in-Some-additions_of = additions.encode_additions-returns-in_err-begins-in-Some-additions_of

pub additions::encode_additions-returns-then-is_none : goal.additions::encode_additions-returns-then-is_none
additions::encode_additions-returns-then-is_none = additions.encode_additions-returns-then-is_none

pub additions::encode_additions-returns-else-is_none : goal.additions::encode_additions-returns-else-is_none
additions::encode_additions-returns-else-is_none = additions.encode_additions-returns-else-is_none

pub additions::encode_known-returns-then-left-eq0 : goal.additions::encode_known-returns-then-left-eq0
additions::encode_known-returns-then-left-eq0 = additions.encode_known-returns-then-left-eq0

pub additions::encode_addition-returns-in-None : goal.additions::encode_addition-returns-in-None
additions::encode_addition-returns-in-None = additions.encode_addition-returns-in-None

pub additions::encode_addition-returns-in-Some-group : goal.additions::encode_addition-returns-in-Some-group
additions::encode_addition-returns-in-Some-group = additions.encode_addition-returns-in-Some-group

pub group::encode_group-returns-then-begins_with : goal.group::encode_group-returns-then-begins_with
group::encode_group-returns-then-begins_with = groups.encode_group-returns-then-begins_with

pub group::encode_group-returns-then-is_absent : goal.group::encode_group-returns-then-is_absent
group::encode_group-returns-then-is_absent = groups.encode_group-returns-then-is_absent

pub group::encode_group-returns-in_err-begins-2 : goal.group::encode_group-returns-in_err-begins-2
group::encode_group-returns-in_err-begins-2 = groups.encode_group-returns-in_err-begins-2

pub group::encode_group-returns-then-not-begins_with : goal.group::encode_group-returns-then-not-begins_with
group::encode_group-returns-then-not-begins_with = groups.encode_group-returns-then-not-begins_with

pub group::encode_group-returns : goal.group::encode_group-returns
group::encode_group-returns = groups.encode_group-returns

pub group::encode_grouped-returns-then-not-is_sequence : goal.group::encode_grouped-returns-then-not-is_sequence
group::encode_grouped-returns-then-not-is_sequence = groups.encode_grouped-returns-then-not-is_sequence

pub group::encode_grouped-overflow_add-state : goal.group::encode_grouped-overflow_add-state
group::encode_grouped-overflow_add-state = groups.encode_grouped-overflow_add-state

pub group::encode_grouped-returns : goal.group::encode_grouped-returns
group::encode_grouped-returns = groups.encode_grouped-returns

pub choice::encode_alternatives-returns-in-None : goal.choice::encode_alternatives-returns-in-None
choice::encode_alternatives-returns-in-None = choices.encode_alternatives-returns-in-None

pub choice::encode_alternatives-overflow_add-state : goal.choice::encode_alternatives-overflow_add-state
choice::encode_alternatives-overflow_add-state = choices.encode_alternatives-overflow_add-state

pub choice::encode_alternatives-returns-in_err-found-in-Some-part_at : goal.choice::encode_alternatives-returns-in_err-found-in-Some-part_at
choice::encode_alternatives-returns-in_err-found-in-Some-part_at = choices.encode_alternatives-returns-in_err-found-in-Some-part_at

pub choice::encode_alternatives-returns-then-not-has_tag : goal.choice::encode_alternatives-returns-then-not-has_tag
choice::encode_alternatives-returns-then-not-has_tag = choices.encode_alternatives-returns-then-not-has_tag

pub choice::encode_alternatives-returns-then-is_chosen : goal.choice::encode_alternatives-returns-then-is_chosen
choice::encode_alternatives-returns-then-is_chosen = choices.encode_alternatives-returns-then-is_chosen

pub choice::encode_alternatives-returns-in_err-other-in-Some-part_at : goal.choice::encode_alternatives-returns-in_err-other-in-Some-part_at
choice::encode_alternatives-returns-in_err-other-in-Some-part_at = choices.encode_alternatives-returns-in_err-other-in-Some-part_at

pub choice::encode_alternatives-returns-then-has_tag : goal.choice::encode_alternatives-returns-then-has_tag
choice::encode_alternatives-returns-then-has_tag = choices.encode_alternatives-returns-then-has_tag

pub choice::encode_alternatives-returns-else-has_tag : goal.choice::encode_alternatives-returns-else-has_tag
choice::encode_alternatives-returns-else-has_tag = choices.encode_alternatives-returns-else-has_tag

pub choice::encode_choice-returns : goal.choice::encode_choice-returns
choice::encode_choice-returns = choices.encode_choice-returns

pub choice::encode_others-returns-in-Unknown : goal.choice::encode_others-returns-in-Unknown
choice::encode_others-returns-in-Unknown = choices.encode_others-returns-in-Unknown

pub list::encode_list-returns-in-None : goal.list::encode_list-returns-in-None
list::encode_list-returns-in-None = lists.encode_list-returns-in-None

pub list::encode_list-returns-in-None-count_of : goal.list::encode_list-returns-in-None-count_of
list::encode_list-returns-in-None-count_of = lists.encode_list-returns-in-None-count_of

pub list::encode_list-returns-then-not-has_size : goal.list::encode_list-returns-then-not-has_size
list::encode_list-returns-then-not-has_size = lists.encode_list-returns-then-not-has_size

pub list::encode_list-overflow_add-state : goal.list::encode_list-overflow_add-state
list::encode_list-overflow_add-state = lists.encode_list-overflow_add-state

pub list::encode_list-returns-else-not-has_size : goal.list::encode_list-returns-else-not-has_size
list::encode_list-returns-else-not-has_size = lists.encode_list-returns-else-not-has_size

pub list::encode_items-loop-left-init : goal.list::encode_items-loop-left-init
list::encode_items-loop-left-init = lists.encode_items-loop-left-init

pub list::encode_items-loop-left-preserved : goal.list::encode_items-loop-left-preserved
list::encode_items-loop-left-preserved = lists.encode_items-loop-left-preserved

pub list::encode_items-encode_node-requires : goal.list::encode_items-encode_node-requires
list::encode_items-encode_node-requires = lists.encode_items-encode_node-requires

pub list::encode_items-returns-then-is_none : goal.list::encode_items-returns-then-is_none
list::encode_items-returns-then-is_none = lists.encode_items-returns-then-is_none

pub list::encode_items-returns : goal.list::encode_items-returns
list::encode_items-returns = lists.encode_items-returns

pub list::encode_items_by-returns-then-is_set : goal.list::encode_items_by-returns-then-is_set
list::encode_items_by-returns-then-is_set = lists.encode_items_by-returns-then-is_set

pub list::encode_items_by-returns : goal.list::encode_items_by-returns
list::encode_items_by-returns = lists.encode_items_by-returns

pub set::encode_set_items-loop-left-init : goal.set::encode_set_items-loop-left-init
set::encode_set_items-loop-left-init = sets.encode_set_items-loop-left-init

pub set::encode_set_items-returns-then-not-encode_item : goal.set::encode_set_items-returns-then-not-encode_item
set::encode_set_items-returns-then-not-encode_item = sets.encode_set_items-returns-then-not-encode_item

pub set::encode_set_items-loop-left-preserved : goal.set::encode_set_items-loop-left-preserved
set::encode_set_items-loop-left-preserved = sets.encode_set_items-loop-left-preserved

pub set::encode_set_items-returns : goal.set::encode_set_items-returns
set::encode_set_items-returns = sets.encode_set_items-returns

pub set::encode_item-returns-in-None : goal.set::encode_item-returns-in-None
set::encode_item-returns-in-None = sets.encode_item-returns-in-None

pub set::encode_next-returns-then-is_none : goal.set::encode_next-returns-then-is_none
set::encode_next-returns-then-is_none = sets.encode_next-returns-then-is_none

pub set::encode_next-returns-then-are_in : goal.set::encode_next-returns-then-are_in
set::encode_next-returns-then-are_in = sets.encode_next-returns-then-are_in

pub set::encode_next-returns : goal.set::encode_next-returns
set::encode_next-returns = sets.encode_next-returns

pub set::are_ordered_alone-encode_node-requires-2 : goal.set::are_ordered_alone-encode_node-requires-2
set::are_ordered_alone-encode_node-requires-2 = sets.are_ordered_alone-encode_node-requires-2

pub set::are_ordered_alone-returns-then-is_none-clause-ordered : goal.set::are_ordered_alone-returns-then-is_none-clause-ordered
set::are_ordered_alone-returns-then-is_none-clause-ordered = sets.are_ordered_alone-returns-then-is_none-clause-ordered

pub set::are_ordered_alone-returns-then-is_none-2-clause-ordered : goal.set::are_ordered_alone-returns-then-is_none-2-clause-ordered
set::are_ordered_alone-returns-then-is_none-2-clause-ordered = sets.are_ordered_alone-returns-then-is_none-2-clause-ordered

pub set::are_ordered_alone-returns-then-not-are_in-clause-ordered : goal.set::are_ordered_alone-returns-then-not-are_in-clause-ordered
set::are_ordered_alone-returns-then-not-are_in-clause-ordered = sets.are_ordered_alone-returns-then-not-are_in-clause-ordered

pub set::are_ordered_alone-returns-clause-ordered : goal.set::are_ordered_alone-returns-clause-ordered
set::are_ordered_alone-returns-clause-ordered = sets.are_ordered_alone-returns-clause-ordered

pub value::encode_value-returns-in-Mandatory : goal.value::encode_value-returns-in-Mandatory
value::encode_value-returns-in-Mandatory = values.encode_value-returns-in-Mandatory

pub value::encode_value-returns-in-Optional : goal.value::encode_value-returns-in-Optional
value::encode_value-returns-in-Optional = values.encode_value-returns-in-Optional

pub value::encode_value-returns-in-Default : goal.value::encode_value-returns-in-Default
value::encode_value-returns-in-Default = values.encode_value-returns-in-Default

pub value::encode_other_than-returns-then-not-is_other : goal.value::encode_other_than-returns-then-not-is_other
value::encode_other_than-returns-then-not-is_other = values.encode_other_than-returns-then-not-is_other

pub value::encode_other_than-returns-then-not-is_in : goal.value::encode_other_than-returns-then-not-is_in
value::encode_other_than-returns-then-not-is_in = values.encode_other_than-returns-then-not-is_in

pub value::encode_other_than-returns-then-not-may_be_default : goal.value::encode_other_than-returns-then-not-may_be_default
value::encode_other_than-returns-then-not-may_be_default = values.encode_other_than-returns-then-not-may_be_default

pub value::encode_other_than-returns-then-is_default : goal.value::encode_other_than-returns-then-is_default
value::encode_other_than-returns-then-is_default = values.encode_other_than-returns-then-is_default

pub value::encode_other_than-returns : goal.value::encode_other_than-returns
value::encode_other_than-returns = values.encode_other_than-returns

pub value::is_other-returns-in-None-clause-compared : goal.value::is_other-returns-in-None-clause-compared
value::is_other-returns-in-None-clause-compared = values.is_other-returns-in-None-clause-compared

pub value::is_other-returns-then-not-is_in-clause-compared : goal.value::is_other-returns-then-not-is_in-clause-compared
value::is_other-returns-then-not-is_in-clause-compared = values.is_other-returns-then-not-is_in-clause-compared

pub value::is_other-returns-then-is_default-clause-compared : goal.value::is_other-returns-then-is_default-clause-compared
value::is_other-returns-then-is_default-clause-compared = values.is_other-returns-then-is_default-clause-compared

pub value::is_other-returns-else-is_default-clause-compared : goal.value::is_other-returns-else-is_default-clause-compared
value::is_other-returns-else-is_default-clause-compared = values.is_other-returns-else-is_default-clause-compared

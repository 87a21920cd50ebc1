-- The answers, by the sort of type that they are of.
mod Elements
mod Tagged
mod Choices
mod Sequences
mod Additions
mod Lists
use Rattle.asn1_x690_decode.proofs.+decoding.Answers.Elements as elements
use Rattle.asn1_x690_decode.proofs.+decoding.Answers.Tagged as tagged
use Rattle.asn1_x690_decode.proofs.+decoding.Answers.Choices as choices
use Rattle.asn1_x690_decode.proofs.+decoding.Answers.Sequences as sequences
use Rattle.asn1_x690_decode.proofs.+decoding.Answers.Additions as additions
use Rattle.asn1_x690_decode.proofs.+decoding.Answers.Lists as lists
use Rattle.asn1_x690_decode.proofs.+decoding.Goals as goal

pub element::decode_contents-returns-in-Some-tags_at-clause-did : goal.element::decode_contents-returns-in-Some-tags_at-clause-did
element::decode_contents-returns-in-Some-tags_at-clause-did = elements.decode_contents-returns-in-Some-tags_at-clause-did

pub element::decode_element-returns-in-Some-clause-did : goal.element::decode_element-returns-in-Some-clause-did
element::decode_element-returns-in-Some-clause-did = elements.decode_element-returns-in-Some-clause-did

pub tagged::decode_by_tags-returns-else-not-is_identifier-2-clause-did : goal.tagged::decode_by_tags-returns-else-not-is_identifier-2-clause-did
tagged::decode_by_tags-returns-else-not-is_identifier-2-clause-did = tagged.decode_by_tags-returns-else-not-is_identifier-2-clause-did

pub tagged::decode_in_tag_of-returns-then-not-is_decoded-clause-did : goal.tagged::decode_in_tag_of-returns-then-not-is_decoded-clause-did
tagged::decode_in_tag_of-returns-then-not-is_decoded-clause-did = tagged.decode_in_tag_of-returns-then-not-is_decoded-clause-did

pub tagged::decode_in_tag_of-returns-then-state-end-clause-did : goal.tagged::decode_in_tag_of-returns-then-state-end-clause-did
tagged::decode_in_tag_of-returns-then-state-end-clause-did = tagged.decode_in_tag_of-returns-then-state-end-clause-did

pub tagged::decode_in_tag_of-returns-else-state-end-clause-did : goal.tagged::decode_in_tag_of-returns-else-state-end-clause-did
tagged::decode_in_tag_of-returns-else-state-end-clause-did = tagged.decode_in_tag_of-returns-else-state-end-clause-did

pub tagged::decode_bare-returns-then-of-clause-did : goal.tagged::decode_bare-returns-then-of-clause-did
tagged::decode_bare-returns-then-of-clause-did = tagged.decode_bare-returns-then-of-clause-did

pub tagged::decode_own-returns-in-SequenceOf-clause-did : goal.tagged::decode_own-returns-in-SequenceOf-clause-did
tagged::decode_own-returns-in-SequenceOf-clause-did = tagged.decode_own-returns-in-SequenceOf-clause-did

pub tagged::decode_own-returns-in-SetOf-clause-did : goal.tagged::decode_own-returns-in-SetOf-clause-did
tagged::decode_own-returns-in-SetOf-clause-did = tagged.decode_own-returns-in-SetOf-clause-did

pub tagged::decode_own-returns-in_default : goal.tagged::decode_own-returns-in_default
tagged::decode_own-returns-in_default = tagged.decode_own-returns-in_default

pub choice::decode_alternative-returns-clause-did : goal.choice::decode_alternative-returns-clause-did
choice::decode_alternative-returns-clause-did = choices.decode_alternative-returns-clause-did

pub choice::decode_added-overflow_add-index : goal.choice::decode_added-overflow_add-index
choice::decode_added-overflow_add-index = choices.decode_added-overflow_add-index

pub choice::decode_added-returns-in-Found-clause-did : goal.choice::decode_added-returns-in-Found-clause-did
choice::decode_added-returns-in-Found-clause-did = choices.decode_added-returns-in-Found-clause-did

pub choice::decode_added-returns-in-Missing-clause-did : goal.choice::decode_added-returns-in-Missing-clause-did
choice::decode_added-returns-in-Missing-clause-did = choices.decode_added-returns-in-Missing-clause-did

pub choice::decode_added-returns-in-Other-clause-did : goal.choice::decode_added-returns-in-Other-clause-did
choice::decode_added-returns-in-Other-clause-did = choices.decode_added-returns-in-Other-clause-did

pub choice::decode_choice-returns-in-Found-clause-did : goal.choice::decode_choice-returns-in-Found-clause-did
choice::decode_choice-returns-in-Found-clause-did = choices.decode_choice-returns-in-Found-clause-did

pub choice::decode_choice-returns-in-Missing-clause-did : goal.choice::decode_choice-returns-in-Missing-clause-did
choice::decode_choice-returns-in-Missing-clause-did = choices.decode_choice-returns-in-Missing-clause-did

pub choice::decode_choice-returns-then-not-is_extensible-clause-did : goal.choice::decode_choice-returns-then-not-is_extensible-clause-did
choice::decode_choice-returns-then-not-is_extensible-clause-did = choices.decode_choice-returns-then-not-is_extensible-clause-did

pub choice::decode_choice-returns-else-not-is_extensible-clause-did : goal.choice::decode_choice-returns-else-not-is_extensible-clause-did
choice::decode_choice-returns-else-not-is_extensible-clause-did = choices.decode_choice-returns-else-not-is_extensible-clause-did

pub sequence::decode_members-loop-index-init : goal.sequence::decode_members-loop-index-init
sequence::decode_members-loop-index-init = sequences.decode_members-loop-index-init

pub sequence::decode_members-loop-index-preserved : goal.sequence::decode_members-loop-index-preserved
sequence::decode_members-loop-index-preserved = sequences.decode_members-loop-index-preserved

pub sequence::decode_members-returns-then-not-decode_member-clause-did : goal.sequence::decode_members-returns-then-not-decode_member-clause-did
sequence::decode_members-returns-then-not-decode_member-clause-did = sequences.decode_members-returns-then-not-decode_member-clause-did

pub sequence::decode_members-returns-clause-did : goal.sequence::decode_members-returns-clause-did
sequence::decode_members-returns-clause-did = sequences.decode_members-returns-clause-did

pub sequence::decode_component-returns-then-is_required-clause-did : goal.sequence::decode_component-returns-then-is_required-clause-did
sequence::decode_component-returns-then-is_required-clause-did = sequences.decode_component-returns-then-is_required-clause-did

pub sequence::decode_component-returns-else-begins_with-clause-did : goal.sequence::decode_component-returns-else-begins_with-clause-did
sequence::decode_component-returns-else-begins_with-clause-did = sequences.decode_component-returns-else-begins_with-clause-did

pub sequence::decode_value-is_default-requires-clause-inside : goal.sequence::decode_value-is_default-requires-clause-inside
sequence::decode_value-is_default-requires-clause-inside = sequences.decode_value-is_default-requires-clause-inside

pub sequence::decode_value-returns-then-is_default-clause-did : goal.sequence::decode_value-returns-then-is_default-clause-did
sequence::decode_value-returns-then-is_default-clause-did = sequences.decode_value-returns-then-is_default-clause-did

pub sequence::decode_value-returns-else-is_default-clause-did : goal.sequence::decode_value-returns-else-is_default-clause-did
sequence::decode_value-returns-else-is_default-clause-did = sequences.decode_value-returns-else-is_default-clause-did

pub sequence::decode_sequence-returns-then-not-decode_members-clause-did : goal.sequence::decode_sequence-returns-then-not-decode_members-clause-did
sequence::decode_sequence-returns-then-not-decode_members-clause-did = sequences.decode_sequence-returns-then-not-decode_members-clause-did

pub sequence::decode_sequence-returns-then-state-clause-did : goal.sequence::decode_sequence-returns-then-state-clause-did
sequence::decode_sequence-returns-then-state-clause-did = sequences.decode_sequence-returns-then-state-clause-did

pub sequence::decode_sequence-returns-then-not-is_extensible-clause-did : goal.sequence::decode_sequence-returns-then-not-is_extensible-clause-did
sequence::decode_sequence-returns-then-not-is_extensible-clause-did = sequences.decode_sequence-returns-then-not-is_extensible-clause-did

pub sequence::decode_sequence-returns-clause-did : goal.sequence::decode_sequence-returns-clause-did
sequence::decode_sequence-returns-clause-did = sequences.decode_sequence-returns-clause-did

pub additions::decode_additions-overflow_add-known : goal.additions::decode_additions-overflow_add-known
additions::decode_additions-overflow_add-known = additions.decode_additions-overflow_add-known

pub additions::decode_additions-returns-then-not-decode_members-clause-did : goal.additions::decode_additions-returns-then-not-decode_members-clause-did
additions::decode_additions-returns-then-not-decode_members-clause-did = additions.decode_additions-returns-then-not-decode_members-clause-did

pub additions::decode_additions-returns-in-None-clause-did : goal.additions::decode_additions-returns-in-None-clause-did
additions::decode_additions-returns-in-None-clause-did = additions.decode_additions-returns-in-None-clause-did

pub additions::decode_additions-returns-in-Some-clause-did : goal.additions::decode_additions-returns-in-Some-clause-did
additions::decode_additions-returns-in-Some-clause-did = additions.decode_additions-returns-in-Some-clause-did

pub additions::decode_addition-returns-then-not-begins_with-clause-did : goal.additions::decode_addition-returns-then-not-begins_with-clause-did
additions::decode_addition-returns-then-not-begins_with-clause-did = additions.decode_addition-returns-then-not-begins_with-clause-did

pub additions::decode_group-returns-clause-did : goal.additions::decode_group-returns-clause-did
additions::decode_group-returns-clause-did = additions.decode_group-returns-clause-did

pub list::decode_items-loop-state-init : goal.list::decode_items-loop-state-init
list::decode_items-loop-state-init = lists.decode_items-loop-state-init

pub list::decode_items-is_before-requires-clause-inside : goal.list::decode_items-is_before-requires-clause-inside
list::decode_items-is_before-requires-clause-inside = lists.decode_items-is_before-requires-clause-inside

pub list::decode_items-returns-then-not-decode_element-clause-did : goal.list::decode_items-returns-then-not-decode_element-clause-did
list::decode_items-returns-then-not-decode_element-clause-did = lists.decode_items-returns-then-not-decode_element-clause-did

pub list::decode_items-returns-then-is_before-clause-did : goal.list::decode_items-returns-then-is_before-clause-did
list::decode_items-returns-then-is_before-clause-did = lists.decode_items-returns-then-is_before-clause-did

pub list::decode_items-loop-state-preserved : goal.list::decode_items-loop-state-preserved
list::decode_items-loop-state-preserved = lists.decode_items-loop-state-preserved

pub list::decode_items-returns-clause-did : goal.list::decode_items-returns-clause-did
list::decode_items-returns-clause-did = lists.decode_items-returns-clause-did

pub list::decode_list-returns-else-not-has_size-clause-did : goal.list::decode_list-returns-else-not-has_size-clause-did
list::decode_list-returns-else-not-has_size-clause-did = lists.decode_list-returns-else-not-has_size-clause-did

-- The answers, by the sort of type that they are of.
mod Nodes
mod Sequences
mod Additions
mod Choices
mod Fragments
mod Lists
mod Sets
mod OpenTypes
use Rattle.asn1_x691_decode.proofs.+decoding.Answers.Nodes as nodes
use Rattle.asn1_x691_decode.proofs.+decoding.Answers.Sequences as sequences
use Rattle.asn1_x691_decode.proofs.+decoding.Answers.OpenTypes as opentypes
use Rattle.asn1_x691_decode.proofs.+decoding.Answers.Additions as additions
use Rattle.asn1_x691_decode.proofs.+decoding.Answers.Choices as choices
use Rattle.asn1_x691_decode.proofs.+decoding.Answers.Fragments as fragments
use Rattle.asn1_x691_decode.proofs.+decoding.Answers.Lists as lists
use Rattle.asn1_x691_decode.proofs.+decoding.Answers.Sets as sets
use Rattle.asn1_x691_decode.proofs.+decoding.Goals as goal

pub decoder::decode_node-returns-in-Null-clause-did : goal.decoder::decode_node-returns-in-Null-clause-did
decoder::decode_node-returns-in-Null-clause-did = nodes.decode_node-returns-in-Null-clause-did

pub decoder::decode_node-returns-in-Boolean-clause-did : goal.decoder::decode_node-returns-in-Boolean-clause-did
decoder::decode_node-returns-in-Boolean-clause-did = nodes.decode_node-returns-in-Boolean-clause-did

pub decoder::decode_node-returns-in-Sequence-clause-did : goal.decoder::decode_node-returns-in-Sequence-clause-did
decoder::decode_node-returns-in-Sequence-clause-did = nodes.decode_node-returns-in-Sequence-clause-did

pub decoder::decode_node-returns-in-Open-clause-did : goal.decoder::decode_node-returns-in-Open-clause-did
decoder::decode_node-returns-in-Open-clause-did = nodes.decode_node-returns-in-Open-clause-did

pub decoder::decode_node-returns-in-Choice-clause-did : goal.decoder::decode_node-returns-in-Choice-clause-did
decoder::decode_node-returns-in-Choice-clause-did = nodes.decode_node-returns-in-Choice-clause-did

pub decoder::decode_node-returns-in-SequenceOf-clause-did : goal.decoder::decode_node-returns-in-SequenceOf-clause-did
decoder::decode_node-returns-in-SequenceOf-clause-did = nodes.decode_node-returns-in-SequenceOf-clause-did

pub decoder::decode_node-returns-in-SetOf-clause-did : goal.decoder::decode_node-returns-in-SetOf-clause-did
decoder::decode_node-returns-in-SetOf-clause-did = nodes.decode_node-returns-in-SetOf-clause-did

pub decoder::decode_node-returns-in-ObjectIdentifier-clause-did : goal.decoder::decode_node-returns-in-ObjectIdentifier-clause-did
decoder::decode_node-returns-in-ObjectIdentifier-clause-did = nodes.decode_node-returns-in-ObjectIdentifier-clause-did

pub decoder::decode_node-returns-in-RelativeIdentifier-clause-did : goal.decoder::decode_node-returns-in-RelativeIdentifier-clause-did
decoder::decode_node-returns-in-RelativeIdentifier-clause-did = nodes.decode_node-returns-in-RelativeIdentifier-clause-did

pub decoder::decode_node-returns-in-Utf8String-clause-did : goal.decoder::decode_node-returns-in-Utf8String-clause-did
decoder::decode_node-returns-in-Utf8String-clause-did = nodes.decode_node-returns-in-Utf8String-clause-did

pub decoder::decode_node-returns-in-Real-clause-did : goal.decoder::decode_node-returns-in-Real-clause-did
decoder::decode_node-returns-in-Real-clause-did = nodes.decode_node-returns-in-Real-clause-did

pub decoder::decode_node-returns-in-Time-clause-did : goal.decoder::decode_node-returns-in-Time-clause-did
decoder::decode_node-returns-in-Time-clause-did = nodes.decode_node-returns-in-Time-clause-did

pub decoder::decode_node-returns-in-IntegerBetween-clause-did : goal.decoder::decode_node-returns-in-IntegerBetween-clause-did
decoder::decode_node-returns-in-IntegerBetween-clause-did = nodes.decode_node-returns-in-IntegerBetween-clause-did

pub decoder::decode_node-returns-in-IntegerAtLeast-clause-did : goal.decoder::decode_node-returns-in-IntegerAtLeast-clause-did
decoder::decode_node-returns-in-IntegerAtLeast-clause-did = nodes.decode_node-returns-in-IntegerAtLeast-clause-did

pub decoder::decode_node-returns-in-Integer-clause-did : goal.decoder::decode_node-returns-in-Integer-clause-did
decoder::decode_node-returns-in-Integer-clause-did = nodes.decode_node-returns-in-Integer-clause-did

pub decoder::decode_node-returns-in-Enumerated-clause-did : goal.decoder::decode_node-returns-in-Enumerated-clause-did
decoder::decode_node-returns-in-Enumerated-clause-did = nodes.decode_node-returns-in-Enumerated-clause-did

pub decoder::decode_node-returns-in-BitString-clause-did : goal.decoder::decode_node-returns-in-BitString-clause-did
decoder::decode_node-returns-in-BitString-clause-did = nodes.decode_node-returns-in-BitString-clause-did

pub decoder::decode_node-returns-in-OctetString-clause-did : goal.decoder::decode_node-returns-in-OctetString-clause-did
decoder::decode_node-returns-in-OctetString-clause-did = nodes.decode_node-returns-in-OctetString-clause-did

pub sequence::decode_component-returns-in-Some-false : goal.sequence::decode_component-returns-in-Some-false
sequence::decode_component-returns-in-Some-false = sequences.decode_component-returns-in-Some-false

pub sequence::decode_components-returns-then-not-decode_component-clause-did : goal.sequence::decode_components-returns-then-not-decode_component-clause-did
sequence::decode_components-returns-then-not-decode_component-clause-did = sequences.decode_components-returns-then-not-decode_component-clause-did

pub sequence::decode_components-loop-index-preserved : goal.sequence::decode_components-loop-index-preserved
sequence::decode_components-loop-index-preserved = sequences.decode_components-loop-index-preserved

pub sequence::decode_components-returns-then-known-root-clause-did : goal.sequence::decode_components-returns-then-known-root-clause-did
sequence::decode_components-returns-then-known-root-clause-did = sequences.decode_components-returns-then-known-root-clause-did

pub sequence::decode_components-returns-then-presence-gt0-clause-did : goal.sequence::decode_components-returns-then-presence-gt0-clause-did
sequence::decode_components-returns-then-presence-gt0-clause-did = sequences.decode_components-returns-then-presence-gt0-clause-did

pub sequence::decode_components-returns-clause-did : goal.sequence::decode_components-returns-clause-did
sequence::decode_components-returns-clause-did = sequences.decode_components-returns-clause-did

pub sequence::decode_root-returns-in-Some-clause-did : goal.sequence::decode_root-returns-in-Some-clause-did
sequence::decode_root-returns-in-Some-clause-did = sequences.decode_root-returns-in-Some-clause-did

pub sequence::decode_sequence-returns-then-not-is_extensible-clause-did : goal.sequence::decode_sequence-returns-then-not-is_extensible-clause-did
sequence::decode_sequence-returns-then-not-is_extensible-clause-did = sequences.decode_sequence-returns-then-not-is_extensible-clause-did

pub sequence::decode_sequence-returns-then-not-is_extended-clause-did : goal.sequence::decode_sequence-returns-then-not-is_extended-clause-did
sequence::decode_sequence-returns-then-not-is_extended-clause-did = sequences.decode_sequence-returns-then-not-is_extended-clause-did

pub sequence::decode_sequence-returns-then-not-decode_root-clause-did : goal.sequence::decode_sequence-returns-then-not-decode_root-clause-did
sequence::decode_sequence-returns-then-not-decode_root-clause-did = sequences.decode_sequence-returns-then-not-decode_root-clause-did

pub sequence::decode_sequence-returns-clause-did : goal.sequence::decode_sequence-returns-clause-did
sequence::decode_sequence-returns-clause-did = sequences.decode_sequence-returns-clause-did

pub open_type::decode_complete-returns-clause-did : goal.open_type::decode_complete-returns-clause-did
open_type::decode_complete-returns-clause-did = opentypes.decode_complete-returns-clause-did

pub open_type::decode_complete-returns-then-not-decode_value-clause-did : goal.open_type::decode_complete-returns-then-not-decode_value-clause-did
open_type::decode_complete-returns-then-not-decode_value-clause-did = opentypes.decode_complete-returns-then-not-decode_value-clause-did

pub open_type::decode_enclosed-returns-then-not-is_complete-clause-did : goal.open_type::decode_enclosed-returns-then-not-is_complete-clause-did
open_type::decode_enclosed-returns-then-not-is_complete-clause-did = opentypes.decode_enclosed-returns-then-not-is_complete-clause-did

pub open_type::decode_enclosed-returns-clause-did : goal.open_type::decode_enclosed-returns-clause-did
open_type::decode_enclosed-returns-clause-did = opentypes.decode_enclosed-returns-clause-did

pub open_type::decode_value-returns-in-Default-clause-did : goal.open_type::decode_value-returns-in-Default-clause-did
open_type::decode_value-returns-in-Default-clause-did = opentypes.decode_value-returns-in-Default-clause-did

pub open_type::decode_other_than-is_default-requires-clause-inside : goal.open_type::decode_other_than-is_default-requires-clause-inside
open_type::decode_other_than-is_default-requires-clause-inside = opentypes.decode_other_than-is_default-requires-clause-inside

pub open_type::decode_other_than-returns-then-not-decode_node-clause-did : goal.open_type::decode_other_than-returns-then-not-decode_node-clause-did
open_type::decode_other_than-returns-then-not-decode_node-clause-did = opentypes.decode_other_than-returns-then-not-decode_node-clause-did

pub open_type::decode_other_than-returns-then-is_default-clause-did : goal.open_type::decode_other_than-returns-then-is_default-clause-did
open_type::decode_other_than-returns-then-is_default-clause-did = opentypes.decode_other_than-returns-then-is_default-clause-did

pub open_type::decode_other_than-returns-clause-did : goal.open_type::decode_other_than-returns-clause-did
open_type::decode_other_than-returns-clause-did = opentypes.decode_other_than-returns-clause-did

pub additions::decode_extension-returns-in-None-next_bits-clause-did : goal.additions::decode_extension-returns-in-None-next_bits-clause-did
additions::decode_extension-returns-in-None-next_bits-clause-did = additions.decode_extension-returns-in-None-next_bits-clause-did

pub additions::decode_extension-returns-then-not-has_one-clause-did : goal.additions::decode_extension-returns-then-not-has_one-clause-did
additions::decode_extension-returns-then-not-has_one-clause-did = additions.decode_extension-returns-then-not-has_one-clause-did

pub additions::decode_extension-returns-clause-did : goal.additions::decode_extension-returns-clause-did
additions::decode_extension-returns-clause-did = additions.decode_extension-returns-clause-did

pub additions::decode_optional_addition-returns-in-Some-false-clause-did : goal.additions::decode_optional_addition-returns-in-Some-false-clause-did
additions::decode_optional_addition-returns-in-Some-false-clause-did = additions.decode_optional_addition-returns-in-Some-false-clause-did

pub additions::decode_additions-returns-then-not-decode_optional_addition-clause-did : goal.additions::decode_additions-returns-then-not-decode_optional_addition-clause-did
additions::decode_additions-returns-then-not-decode_optional_addition-clause-did = additions.decode_additions-returns-then-not-decode_optional_addition-clause-did

pub additions::decode_additions-loop-index-preserved : goal.additions::decode_additions-loop-index-preserved
additions::decode_additions-loop-index-preserved = additions.decode_additions-loop-index-preserved

pub additions::decode_additions-returns-clause-did : goal.additions::decode_additions-returns-clause-did
additions::decode_additions-returns-clause-did = additions.decode_additions-returns-clause-did

pub choice::decode_alternative-returns-then-index-rows-clause-did : goal.choice::decode_alternative-returns-then-index-rows-clause-did
choice::decode_alternative-returns-then-index-rows-clause-did = choices.decode_alternative-returns-then-index-rows-clause-did

pub choice::decode_alternative-returns-in-None-member_from-clause-did : goal.choice::decode_alternative-returns-in-None-member_from-clause-did
choice::decode_alternative-returns-in-None-member_from-clause-did = choices.decode_alternative-returns-in-None-member_from-clause-did

pub choice::decode_alternative-returns-in-Some-member_from-clause-did : goal.choice::decode_alternative-returns-in-Some-member_from-clause-did
choice::decode_alternative-returns-in-Some-member_from-clause-did = choices.decode_alternative-returns-in-Some-member_from-clause-did

pub choice::decode_added-returns-in-Some-known_index-clause-did : goal.choice::decode_added-returns-in-Some-known_index-clause-did
choice::decode_added-returns-in-Some-known_index-clause-did = choices.decode_added-returns-in-Some-known_index-clause-did

pub choice::decode_added-returns-in-None-known_index-clause-did : goal.choice::decode_added-returns-in-None-known_index-clause-did
choice::decode_added-returns-in-None-known_index-clause-did = choices.decode_added-returns-in-None-known_index-clause-did

pub choice::decode_added-overflow_add-max : goal.choice::decode_added-overflow_add-max
choice::decode_added-overflow_add-max = choices.decode_added-overflow_add-max

pub choice::decode_choice-returns-in-Some-true-clause-did : goal.choice::decode_choice-returns-in-Some-true-clause-did
choice::decode_choice-returns-in-Some-true-clause-did = choices.decode_choice-returns-in-Some-true-clause-did

pub choice::decode_choice-returns-in-Some-false-clause-did : goal.choice::decode_choice-returns-in-Some-false-clause-did
choice::decode_choice-returns-in-Some-false-clause-did = choices.decode_choice-returns-in-Some-false-clause-did

pub list::decode_list-returns-in-Some-true-clause-did : goal.list::decode_list-returns-in-Some-true-clause-did
list::decode_list-returns-in-Some-true-clause-did = lists.decode_list-returns-in-Some-true-clause-did

pub list::decode_list-returns-in-Some-false-clause-did : goal.list::decode_list-returns-in-Some-false-clause-did
list::decode_list-returns-in-Some-false-clause-did = lists.decode_list-returns-in-Some-false-clause-did

pub list::decode_items-returns-then-not-decode_node-clause-did : goal.list::decode_items-returns-then-not-decode_node-clause-did
list::decode_items-returns-then-not-decode_node-clause-did = lists.decode_items-returns-then-not-decode_node-clause-did

pub list::decode_items-loop-left-preserved : goal.list::decode_items-loop-left-preserved
list::decode_items-loop-left-preserved = lists.decode_items-loop-left-preserved

pub list::decode_items-returns-clause-did : goal.list::decode_items-returns-clause-did
list::decode_items-returns-clause-did = lists.decode_items-returns-clause-did

pub list::decode_each-returns-then-is_set-clause-did : goal.list::decode_each-returns-then-is_set-clause-did
list::decode_each-returns-then-is_set-clause-did = lists.decode_each-returns-then-is_set-clause-did

pub list::decode_each-returns-clause-did : goal.list::decode_each-returns-clause-did
list::decode_each-returns-clause-did = lists.decode_each-returns-clause-did

pub set::decode_set_items-returns-then-not-decode_item-clause-did : goal.set::decode_set_items-returns-then-not-decode_item-clause-did
set::decode_set_items-returns-then-not-decode_item-clause-did = sets.decode_set_items-returns-then-not-decode_item-clause-did

pub set::decode_set_items-loop-left-init : goal.set::decode_set_items-loop-left-init
set::decode_set_items-loop-left-init = sets.decode_set_items-loop-left-init

pub set::decode_set_items-loop-left-preserved : goal.set::decode_set_items-loop-left-preserved
set::decode_set_items-loop-left-preserved = sets.decode_set_items-loop-left-preserved

pub set::decode_set_items-returns-clause-did : goal.set::decode_set_items-returns-clause-did
set::decode_set_items-returns-clause-did = sets.decode_set_items-returns-clause-did

pub set::decode_item-returns-then-not-decode_node-clause-did : goal.set::decode_item-returns-then-not-decode_node-clause-did
set::decode_item-returns-then-not-decode_node-clause-did = sets.decode_item-returns-then-not-decode_node-clause-did

pub set::decode_item-returns-then-is_off_octet-clause-did : goal.set::decode_item-returns-then-is_off_octet-clause-did
set::decode_item-returns-then-is_off_octet-clause-did = sets.decode_item-returns-then-is_off_octet-clause-did

pub set::decode_item-returns-then-is_before-clause-did : goal.set::decode_item-returns-then-is_before-clause-did
set::decode_item-returns-then-is_before-clause-did = sets.decode_item-returns-then-is_before-clause-did

pub set::decode_item-returns-clause-did : goal.set::decode_item-returns-clause-did
set::decode_item-returns-clause-did = sets.decode_item-returns-clause-did

pub set::decode_item-is_before-requires-clause-inside : goal.set::decode_item-is_before-requires-clause-inside
set::decode_item-is_before-requires-clause-inside = sets.decode_item-is_before-requires-clause-inside

pub decoder::decode_node-returns-in-Text-clause-did : goal.decoder::decode_node-returns-in-Text-clause-did
decoder::decode_node-returns-in-Text-clause-did = nodes.decode_node-returns-in-Text-clause-did

pub fragments::decode_last_items-returns-then-count-ge16384-clause-did : goal.fragments::decode_last_items-returns-then-count-ge16384-clause-did
fragments::decode_last_items-returns-then-count-ge16384-clause-did = fragments.decode_last_items-returns-then-count-ge16384-clause-did

pub fragments::decode_last_items-returns-then-not-decode_fragment-clause-did : goal.fragments::decode_last_items-returns-then-not-decode_fragment-clause-did
fragments::decode_last_items-returns-then-not-decode_fragment-clause-did = fragments.decode_last_items-returns-then-not-decode_fragment-clause-did

pub fragments::decode_last_items-returns-clause-did : goal.fragments::decode_last_items-returns-clause-did
fragments::decode_last_items-returns-clause-did = fragments.decode_last_items-returns-clause-did

pub fragments::decode_numbered_items-returns-in_default-clause-did : goal.fragments::decode_numbered_items-returns-in_default-clause-did
fragments::decode_numbered_items-returns-in_default-clause-did = fragments.decode_numbered_items-returns-in_default-clause-did

pub fragments::decode_numbered_items-returns-then-not-decode_fragment-clause-did : goal.fragments::decode_numbered_items-returns-then-not-decode_fragment-clause-did
fragments::decode_numbered_items-returns-then-not-decode_fragment-clause-did = fragments.decode_numbered_items-returns-then-not-decode_fragment-clause-did

pub fragments::decode_numbered_items-returns-then-count-lt16384-clause-did : goal.fragments::decode_numbered_items-returns-then-count-lt16384-clause-did
fragments::decode_numbered_items-returns-then-count-lt16384-clause-did = fragments.decode_numbered_items-returns-then-count-lt16384-clause-did

pub fragments::decode_numbered_items-returns-in_default-decode_last_items-clause-did : goal.fragments::decode_numbered_items-returns-in_default-decode_last_items-clause-did
fragments::decode_numbered_items-returns-in_default-decode_last_items-clause-did = fragments.decode_numbered_items-returns-in_default-decode_last_items-clause-did

pub fragments::decode_numbered_items-returns-then-count-lt65536-clause-did : goal.fragments::decode_numbered_items-returns-then-count-lt65536-clause-did
fragments::decode_numbered_items-returns-then-count-lt65536-clause-did = fragments.decode_numbered_items-returns-then-count-lt65536-clause-did

pub fragments::decode_numbered_items-loop-whole-preserved : goal.fragments::decode_numbered_items-loop-whole-preserved
fragments::decode_numbered_items-loop-whole-preserved = fragments.decode_numbered_items-loop-whole-preserved

pub fragments::decode_numbered_items-returns-in_default-decode_last_items-2-clause-did : goal.fragments::decode_numbered_items-returns-in_default-decode_last_items-2-clause-did
fragments::decode_numbered_items-returns-in_default-decode_last_items-2-clause-did = fragments.decode_numbered_items-returns-in_default-decode_last_items-2-clause-did

pub fragments::decode_numbered_items-returns-clause-did : goal.fragments::decode_numbered_items-returns-clause-did
fragments::decode_numbered_items-returns-clause-did = fragments.decode_numbered_items-returns-clause-did

pub fragments::decode_numbered_list-returns-clause-did : goal.fragments::decode_numbered_list-returns-clause-did
fragments::decode_numbered_list-returns-clause-did = fragments.decode_numbered_list-returns-clause-did

pub list::decode_added_list-returns-then-is_of_root-clause-did : goal.list::decode_added_list-returns-then-is_of_root-clause-did
list::decode_added_list-returns-then-is_of_root-clause-did = lists.decode_added_list-returns-then-is_of_root-clause-did

pub list::decode_added_list-returns-clause-did : goal.list::decode_added_list-returns-clause-did
list::decode_added_list-returns-clause-did = lists.decode_added_list-returns-clause-did

pub list::decode_added_set-returns-clause-did : goal.list::decode_added_set-returns-clause-did
list::decode_added_set-returns-clause-did = lists.decode_added_set-returns-clause-did

pub list::decode_at_least-returns-then-count-least-clause-did : goal.list::decode_at_least-returns-then-count-least-clause-did
list::decode_at_least-returns-then-count-least-clause-did = lists.decode_at_least-returns-then-count-least-clause-did

pub list::decode_at_least-returns-clause-did : goal.list::decode_at_least-returns-clause-did
list::decode_at_least-returns-clause-did = lists.decode_at_least-returns-clause-did

pub list::decode_root_list-returns-in-Some-clause-did : goal.list::decode_root_list-returns-in-Some-clause-did
list::decode_root_list-returns-in-Some-clause-did = lists.decode_root_list-returns-in-Some-clause-did

pub list::decode_set_at_least-returns-clause-did : goal.list::decode_set_at_least-returns-clause-did
list::decode_set_at_least-returns-clause-did = lists.decode_set_at_least-returns-clause-did

pub fragments::decode_fragment-returns-then-not-decode_items-clause-did : goal.fragments::decode_fragment-returns-then-not-decode_items-clause-did
fragments::decode_fragment-returns-then-not-decode_items-clause-did = fragments.decode_fragment-returns-then-not-decode_items-clause-did

pub fragments::decode_fragment-returns-then-is_empty_fragment-clause-did : goal.fragments::decode_fragment-returns-then-is_empty_fragment-clause-did
fragments::decode_fragment-returns-then-is_empty_fragment-clause-did = fragments.decode_fragment-returns-then-is_empty_fragment-clause-did

pub fragments::decode_fragment-returns-clause-did : goal.fragments::decode_fragment-returns-clause-did
fragments::decode_fragment-returns-clause-did = fragments.decode_fragment-returns-clause-did

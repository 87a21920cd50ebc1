-- The answers, by the sort of type that they are of.
mod Nodes
mod Lists
mod Fragments
mod Choices
mod Contents
mod Sequences
mod ExtensibleSequences
mod OpenTypes
mod MoreNodes
mod Additions
mod AddedChoices
mod Values
mod Sets
use Rattle.asn1_x691_encode.proofs.+encoding.Answers.Nodes as nodes
use Rattle.asn1_x691_encode.proofs.+encoding.Answers.Lists as lists
use Rattle.asn1_x691_encode.proofs.+encoding.Answers.Fragments as fragments
use Rattle.asn1_x691_encode.proofs.+encoding.Answers.Choices as choices
use Rattle.asn1_x691_encode.proofs.+encoding.Answers.Contents as contents
use Rattle.asn1_x691_encode.proofs.+encoding.Answers.Sequences as sequences
use Rattle.asn1_x691_encode.proofs.+encoding.Answers.ExtensibleSequences as extensiblesequences
use Rattle.asn1_x691_encode.proofs.+encoding.Answers.OpenTypes as opentypes
use Rattle.asn1_x691_encode.proofs.+encoding.Answers.MoreNodes as morenodes
use Rattle.asn1_x691_encode.proofs.+encoding.Answers.Additions as additions
use Rattle.asn1_x691_encode.proofs.+encoding.Answers.AddedChoices as addedchoices
use Rattle.asn1_x691_encode.proofs.+encoding.Answers.Values as values
use Rattle.asn1_x691_encode.proofs.+encoding.Answers.Sets as sets
use Rattle.asn1_x691_encode.proofs.+encoding.Goals as goal

pub encoder::encode_node-returns-in-Null : goal.encoder::encode_node-returns-in-Null
encoder::encode_node-returns-in-Null = nodes.encode_node-returns-in-Null

pub encoder::encode_node-returns-in-Boolean : goal.encoder::encode_node-returns-in-Boolean
encoder::encode_node-returns-in-Boolean = nodes.encode_node-returns-in-Boolean

pub encoder::encode_node-returns-in-IntegerBetween : goal.encoder::encode_node-returns-in-IntegerBetween
encoder::encode_node-returns-in-IntegerBetween = nodes.encode_node-returns-in-IntegerBetween

pub encoder::encode_node-returns-in-IntegerAtLeast : goal.encoder::encode_node-returns-in-IntegerAtLeast
encoder::encode_node-returns-in-IntegerAtLeast = nodes.encode_node-returns-in-IntegerAtLeast

pub encoder::encode_node-returns-in-Integer : goal.encoder::encode_node-returns-in-Integer
encoder::encode_node-returns-in-Integer = nodes.encode_node-returns-in-Integer

pub encoder::encode_node-returns-in-Enumerated : goal.encoder::encode_node-returns-in-Enumerated
encoder::encode_node-returns-in-Enumerated = nodes.encode_node-returns-in-Enumerated

pub encoder::encode_node-returns-in-BitString : goal.encoder::encode_node-returns-in-BitString
encoder::encode_node-returns-in-BitString = nodes.encode_node-returns-in-BitString

pub encoder::encode_node-returns-in-OctetString : goal.encoder::encode_node-returns-in-OctetString
encoder::encode_node-returns-in-OctetString = nodes.encode_node-returns-in-OctetString

pub encoder::encode_node-returns-in-ObjectIdentifier : goal.encoder::encode_node-returns-in-ObjectIdentifier
encoder::encode_node-returns-in-ObjectIdentifier = contents.encode_node-returns-in-ObjectIdentifier

pub encoder::encode_node-returns-in-RelativeIdentifier : goal.encoder::encode_node-returns-in-RelativeIdentifier
encoder::encode_node-returns-in-RelativeIdentifier = contents.encode_node-returns-in-RelativeIdentifier

pub encoder::encode_node-returns-in-Utf8String : goal.encoder::encode_node-returns-in-Utf8String
encoder::encode_node-returns-in-Utf8String = contents.encode_node-returns-in-Utf8String

pub encoder::encode_node-returns-in-Real : goal.encoder::encode_node-returns-in-Real
encoder::encode_node-returns-in-Real = contents.encode_node-returns-in-Real

pub encoder::encode_node-returns-in-Time : goal.encoder::encode_node-returns-in-Time
encoder::encode_node-returns-in-Time = contents.encode_node-returns-in-Time

pub encoder::encode_node-returns-in-Text : goal.encoder::encode_node-returns-in-Text
encoder::encode_node-returns-in-Text = contents.encode_node-returns-in-Text

pub encoder::encode_node-returns-else-is_extensible : goal.encoder::encode_node-returns-else-is_extensible
encoder::encode_node-returns-else-is_extensible = nodes.encode_node-returns-else-is_extensible

pub list::encode_between-returns-then-count-least : goal.list::encode_between-returns-then-count-least
list::encode_between-returns-then-count-least = lists.encode_between-returns-then-count-least

pub list::encode_between-returns-then-count-least-2 : goal.list::encode_between-returns-then-count-least-2
list::encode_between-returns-then-count-least-2 = lists.encode_between-returns-then-count-least-2

pub list::encode_between-overflow_add-state : goal.list::encode_between-overflow_add-state
list::encode_between-overflow_add-state = lists.encode_between-overflow_add-state

pub list::encode_between-returns : goal.list::encode_between-returns
list::encode_between-returns = lists.encode_between-returns

pub list::encode_items-returns-then-not-encode_node : goal.list::encode_items-returns-then-not-encode_node
list::encode_items-returns-then-not-encode_node = lists.encode_items-returns-then-not-encode_node

pub list::encode_items-loop-left-preserved : goal.list::encode_items-loop-left-preserved
list::encode_items-loop-left-preserved = lists.encode_items-loop-left-preserved

pub list::encode_items-returns : goal.list::encode_items-returns
list::encode_items-returns = lists.encode_items-returns

pub list::encode_list_of-returns-in-Between : goal.list::encode_list_of-returns-in-Between
list::encode_list_of-returns-in-Between = lists.encode_list_of-returns-in-Between

pub list::encode_list_of-returns-in-None : goal.list::encode_list_of-returns-in-None
list::encode_list_of-returns-in-None = lists.encode_list_of-returns-in-None

pub choice::encode_choice_of-returns-in-None : goal.choice::encode_choice_of-returns-in-None
choice::encode_choice_of-returns-in-None = choices.encode_choice_of-returns-in-None

pub choice::encode_index-returns-then-index-last : goal.choice::encode_index-returns-then-index-last
choice::encode_index-returns-then-index-last = choices.encode_index-returns-then-index-last

pub choice::encode_index-overflow_add-state : goal.choice::encode_index-overflow_add-state
choice::encode_index-overflow_add-state = choices.encode_index-overflow_add-state

pub choice::encode_index-returns : goal.choice::encode_index-returns
choice::encode_index-returns = choices.encode_index-returns

pub choice::encode_alternative-returns-in-Some : goal.choice::encode_alternative-returns-in-Some
choice::encode_alternative-returns-in-Some = choices.encode_alternative-returns-in-Some

pub list::encode_extensible_list-returns-in-None-added_count : goal.list::encode_extensible_list-returns-in-None-added_count
list::encode_extensible_list-returns-in-None-added_count = lists.encode_extensible_list-returns-in-None-added_count

pub list::encode_extensible_list-returns-in-Some-added_count : goal.list::encode_extensible_list-returns-in-Some-added_count
list::encode_extensible_list-returns-in-Some-added_count = lists.encode_extensible_list-returns-in-Some-added_count

pub choice::encode_extensible_choice-returns-then-is_addition : goal.choice::encode_extensible_choice-returns-then-is_addition
choice::encode_extensible_choice-returns-then-is_addition = choices.encode_extensible_choice-returns-then-is_addition

pub choice::encode_extensible_choice-returns-else-is_addition : goal.choice::encode_extensible_choice-returns-else-is_addition
choice::encode_extensible_choice-returns-else-is_addition = choices.encode_extensible_choice-returns-else-is_addition

pub sequence::encode_component-returns-in-Mandatory : goal.sequence::encode_component-returns-in-Mandatory
sequence::encode_component-returns-in-Mandatory = sequences.encode_component-returns-in-Mandatory

pub sequence::encode_optional-returns : goal.sequence::encode_optional-returns
sequence::encode_optional-returns = sequences.encode_optional-returns

pub sequence::encode_root-loop-index-init : goal.sequence::encode_root-loop-index-init
sequence::encode_root-loop-index-init = sequences.encode_root-loop-index-init

pub sequence::encode_root-returns-in_default : goal.sequence::encode_root-returns-in_default
sequence::encode_root-returns-in_default = sequences.encode_root-returns-in_default

pub sequence::encode_root-returns-then-not-encode_component : goal.sequence::encode_root-returns-then-not-encode_component
sequence::encode_root-returns-then-not-encode_component = sequences.encode_root-returns-then-not-encode_component

pub sequence::encode_root-loop-index-preserved : goal.sequence::encode_root-loop-index-preserved
sequence::encode_root-loop-index-preserved = sequences.encode_root-loop-index-preserved

pub sequence::encode_root-returns : goal.sequence::encode_root-returns
sequence::encode_root-returns = sequences.encode_root-returns

pub sequence::encode_sequence-returns-in-None : goal.sequence::encode_sequence-returns-in-None
sequence::encode_sequence-returns-in-None = sequences.encode_sequence-returns-in-None

pub sequence::encode_sequence-returns-then-not-is_sequence : goal.sequence::encode_sequence-returns-then-not-is_sequence
sequence::encode_sequence-returns-then-not-is_sequence = sequences.encode_sequence-returns-then-not-is_sequence

pub sequence::encode_sequence-overflow_add-state : goal.sequence::encode_sequence-overflow_add-state
sequence::encode_sequence-overflow_add-state = sequences.encode_sequence-overflow_add-state

pub sequence::encode_sequence-returns-else-not-is_sequence : goal.sequence::encode_sequence-returns-else-not-is_sequence
sequence::encode_sequence-returns-else-not-is_sequence = sequences.encode_sequence-returns-else-not-is_sequence

pub encoder::encode_node-returns-then-is_extensible-2 : goal.encoder::encode_node-returns-then-is_extensible-2
encoder::encode_node-returns-then-is_extensible-2 = nodes.encode_node-returns-then-is_extensible-2

pub encoder::encode_node-returns-else-is_extensible-2 : goal.encoder::encode_node-returns-else-is_extensible-2
encoder::encode_node-returns-else-is_extensible-2 = nodes.encode_node-returns-else-is_extensible-2

pub added_choice::encode_added-returns-in-Far : goal.added_choice::encode_added-returns-in-Far
added_choice::encode_added-returns-in-Far = addedchoices.encode_added-returns-in-Far

pub added_choice::encode_added-returns-in-Known : goal.added_choice::encode_added-returns-in-Known
added_choice::encode_added-returns-in-Known = addedchoices.encode_added-returns-in-Known

pub added_choice::encode_added-returns-in-Other : goal.added_choice::encode_added-returns-in-Other
added_choice::encode_added-returns-in-Other = addedchoices.encode_added-returns-in-Other

pub added_choice::encode_added-returns-in-Unknown : goal.added_choice::encode_added-returns-in-Unknown
added_choice::encode_added-returns-in-Unknown = addedchoices.encode_added-returns-in-Unknown

pub additions::encode_addition-returns : goal.additions::encode_addition-returns
additions::encode_addition-returns = additions.encode_addition-returns

pub additions::encode_addition-returns-then-index-known : goal.additions::encode_addition-returns-then-index-known
additions::encode_addition-returns-then-index-known = additions.encode_addition-returns-then-index-known

pub additions::encode_counted-overflow_add-state : goal.additions::encode_counted-overflow_add-state
additions::encode_counted-overflow_add-state = additions.encode_counted-overflow_add-state

pub additions::encode_counted-returns : goal.additions::encode_counted-returns
additions::encode_counted-returns = additions.encode_counted-returns

pub additions::encode_counted-returns-then-count-eq0 : goal.additions::encode_counted-returns-then-count-eq0
additions::encode_counted-returns-then-count-eq0 = additions.encode_counted-returns-then-count-eq0

pub additions::encode_extension-returns-in-None-additions_of : goal.additions::encode_extension-returns-in-None-additions_of
additions::encode_extension-returns-in-None-additions_of = additions.encode_extension-returns-in-None-additions_of

pub additions::encode_optional_addition-returns : goal.additions::encode_optional_addition-returns
additions::encode_optional_addition-returns = additions.encode_optional_addition-returns

pub additions::encode_optional_addition-returns-then-not-is_present : goal.additions::encode_optional_addition-returns-then-not-is_present
additions::encode_optional_addition-returns-then-not-is_present = additions.encode_optional_addition-returns-then-not-is_present

pub additions::encode_present-loop-index-init : goal.additions::encode_present-loop-index-init
additions::encode_present-loop-index-init = additions.encode_present-loop-index-init

pub additions::encode_present-loop-index-preserved : goal.additions::encode_present-loop-index-preserved
additions::encode_present-loop-index-preserved = additions.encode_present-loop-index-preserved

pub additions::encode_present-returns : goal.additions::encode_present-returns
additions::encode_present-returns = additions.encode_present-returns

pub additions::encode_present-returns-then-not-encode_optional_addition : goal.additions::encode_present-returns-then-not-encode_optional_addition
additions::encode_present-returns-then-not-encode_optional_addition = additions.encode_present-returns-then-not-encode_optional_addition

pub additions::encode_present-returns-then-not-has_one : goal.additions::encode_present-returns-then-not-has_one
additions::encode_present-returns-then-not-has_one = additions.encode_present-returns-then-not-has_one

pub encoder::encode_node-returns-in-Open : goal.encoder::encode_node-returns-in-Open
encoder::encode_node-returns-in-Open = morenodes.encode_node-returns-in-Open

pub encoder::encode_node-returns-then-is_extensible : goal.encoder::encode_node-returns-then-is_extensible
encoder::encode_node-returns-then-is_extensible = morenodes.encode_node-returns-then-is_extensible

pub open_type::encode_octets-put_length_before-state-requires-clause-few : goal.open_type::encode_octets-put_length_before-state-requires-clause-few
open_type::encode_octets-put_length_before-state-requires-clause-few = opentypes.encode_octets-put_length_before-state-requires-clause-few

pub open_type::encode_octets-returns-in-None : goal.open_type::encode_octets-returns-in-None
open_type::encode_octets-returns-in-None = opentypes.encode_octets-returns-in-None

pub open_type::encode_octets-returns-in-Some : goal.open_type::encode_octets-returns-in-Some
open_type::encode_octets-returns-in-Some = opentypes.encode_octets-returns-in-Some

pub open_type::encode_open_type-returns : goal.open_type::encode_open_type-returns
open_type::encode_open_type-returns = opentypes.encode_open_type-returns

pub open_type::encode_open_type-returns-then-not-encode_octets : goal.open_type::encode_open_type-returns-then-not-encode_octets
open_type::encode_open_type-returns-then-not-encode_octets = opentypes.encode_open_type-returns-then-not-encode_octets

pub sequence::encode_extended-returns : goal.sequence::encode_extended-returns
sequence::encode_extended-returns = extensiblesequences.encode_extended-returns

pub sequence::encode_extended-returns-then-not-encode_root : goal.sequence::encode_extended-returns-then-not-encode_root
sequence::encode_extended-returns-then-not-encode_root = extensiblesequences.encode_extended-returns-then-not-encode_root

pub sequence::encode_extensible_sequence-returns-else-is_sequence : goal.sequence::encode_extensible_sequence-returns-else-is_sequence
sequence::encode_extensible_sequence-returns-else-is_sequence = extensiblesequences.encode_extensible_sequence-returns-else-is_sequence

pub sequence::encode_extensible_sequence-returns-in-None : goal.sequence::encode_extensible_sequence-returns-in-None
sequence::encode_extensible_sequence-returns-in-None = extensiblesequences.encode_extensible_sequence-returns-in-None

pub sequence::encode_extensible_sequence-returns-then-is_sequence : goal.sequence::encode_extensible_sequence-returns-then-is_sequence
sequence::encode_extensible_sequence-returns-then-is_sequence = extensiblesequences.encode_extensible_sequence-returns-then-is_sequence

pub additions::encode_known-returns-in-Some : goal.additions::encode_known-returns-in-Some
additions::encode_known-returns-in-Some = additions.encode_known-returns-in-Some

pub sequence::encode_component-returns-in_default : goal.sequence::encode_component-returns-in_default
sequence::encode_component-returns-in_default = sequences.encode_component-returns-in_default

pub encoder::encode_node-returns-in-SequenceOf : goal.encoder::encode_node-returns-in-SequenceOf
encoder::encode_node-returns-in-SequenceOf = nodes.encode_node-returns-in-SequenceOf

pub encoder::encode_node-returns-in-SetOf : goal.encoder::encode_node-returns-in-SetOf
encoder::encode_node-returns-in-SetOf = nodes.encode_node-returns-in-SetOf

pub open_type::encode_octets-returns-then-not-encode_value : goal.open_type::encode_octets-returns-then-not-encode_value
open_type::encode_octets-returns-then-not-encode_value = opentypes.encode_octets-returns-then-not-encode_value

pub list::encode_items_by-returns-then-is_set : goal.list::encode_items_by-returns-then-is_set
list::encode_items_by-returns-then-is_set = lists.encode_items_by-returns-then-is_set

pub list::encode_items_by-returns : goal.list::encode_items_by-returns
list::encode_items_by-returns = lists.encode_items_by-returns

pub list::encode_list_by-returns-then-is_extensible : goal.list::encode_list_by-returns-then-is_extensible
list::encode_list_by-returns-then-is_extensible = lists.encode_list_by-returns-then-is_extensible

pub list::encode_list_by-returns : goal.list::encode_list_by-returns
list::encode_list_by-returns = lists.encode_list_by-returns

pub value::encode_other_than-returns-then-not-encode_node : goal.value::encode_other_than-returns-then-not-encode_node
value::encode_other_than-returns-then-not-encode_node = values.encode_other_than-returns-then-not-encode_node

pub value::encode_other_than-returns-then-not-is_in : goal.value::encode_other_than-returns-then-not-is_in
value::encode_other_than-returns-then-not-is_in = values.encode_other_than-returns-then-not-is_in

pub value::encode_other_than-returns-then-is_default : goal.value::encode_other_than-returns-then-is_default
value::encode_other_than-returns-then-is_default = values.encode_other_than-returns-then-is_default

pub value::encode_other_than-returns : goal.value::encode_other_than-returns
value::encode_other_than-returns = values.encode_other_than-returns

pub value::is_other-returns-then-not-encode_node-clause-compared : goal.value::is_other-returns-then-not-encode_node-clause-compared
value::is_other-returns-then-not-encode_node-clause-compared = values.is_other-returns-then-not-encode_node-clause-compared

pub value::is_other-returns-then-not-is_in-clause-compared : goal.value::is_other-returns-then-not-is_in-clause-compared
value::is_other-returns-then-not-is_in-clause-compared = values.is_other-returns-then-not-is_in-clause-compared

pub value::is_other-returns-then-is_default-clause-compared : goal.value::is_other-returns-then-is_default-clause-compared
value::is_other-returns-then-is_default-clause-compared = values.is_other-returns-then-is_default-clause-compared

pub value::is_other-returns-clause-compared : goal.value::is_other-returns-clause-compared
value::is_other-returns-clause-compared = values.is_other-returns-clause-compared

pub set::encode_set_items-returns-then-not-encode_item : goal.set::encode_set_items-returns-then-not-encode_item
set::encode_set_items-returns-then-not-encode_item = sets.encode_set_items-returns-then-not-encode_item

pub set::encode_set_items-loop-left-preserved : goal.set::encode_set_items-loop-left-preserved
set::encode_set_items-loop-left-preserved = sets.encode_set_items-loop-left-preserved

pub set::encode_set_items-returns : goal.set::encode_set_items-returns
set::encode_set_items-returns = sets.encode_set_items-returns

pub set::encode_next-returns-then-not-encode_node : goal.set::encode_next-returns-then-not-encode_node
set::encode_next-returns-then-not-encode_node = sets.encode_next-returns-then-not-encode_node

pub set::encode_next-returns-then-are_in : goal.set::encode_next-returns-then-are_in
set::encode_next-returns-then-are_in = sets.encode_next-returns-then-are_in

pub set::encode_next-returns : goal.set::encode_next-returns
set::encode_next-returns = sets.encode_next-returns

pub set::are_ordered_alone-returns-then-not-encode_node-clause-ordered : goal.set::are_ordered_alone-returns-then-not-encode_node-clause-ordered
set::are_ordered_alone-returns-then-not-encode_node-clause-ordered = sets.are_ordered_alone-returns-then-not-encode_node-clause-ordered

pub set::are_ordered_alone-returns-then-not-encode_node-2-clause-ordered : goal.set::are_ordered_alone-returns-then-not-encode_node-2-clause-ordered
set::are_ordered_alone-returns-then-not-encode_node-2-clause-ordered = sets.are_ordered_alone-returns-then-not-encode_node-2-clause-ordered

pub set::are_ordered_alone-returns-then-not-are_in-clause-ordered : goal.set::are_ordered_alone-returns-then-not-are_in-clause-ordered
set::are_ordered_alone-returns-then-not-are_in-clause-ordered = sets.are_ordered_alone-returns-then-not-are_in-clause-ordered

pub set::are_ordered_alone-returns-clause-ordered : goal.set::are_ordered_alone-returns-clause-ordered
set::are_ordered_alone-returns-clause-ordered = sets.are_ordered_alone-returns-clause-ordered

pub fragments::encode_items_below-returns-then-count-lt16384 : goal.fragments::encode_items_below-returns-then-count-lt16384
fragments::encode_items_below-returns-then-count-lt16384 = fragments.encode_items_below-returns-then-count-lt16384

pub fragments::encode_items_below-returns-then-not-encode_items : goal.fragments::encode_items_below-returns-then-not-encode_items
fragments::encode_items_below-returns-then-not-encode_items = fragments.encode_items_below-returns-then-not-encode_items

pub fragments::encode_items_below-returns : goal.fragments::encode_items_below-returns
fragments::encode_items_below-returns = fragments.encode_items_below-returns

pub fragments::encode_numbered_items-loop-whole-preserved : goal.fragments::encode_numbered_items-loop-whole-preserved
fragments::encode_numbered_items-loop-whole-preserved = fragments.encode_numbered_items-loop-whole-preserved

pub fragments::encode_numbered_items-returns-then-not-encode_items : goal.fragments::encode_numbered_items-returns-then-not-encode_items
fragments::encode_numbered_items-returns-then-not-encode_items = fragments.encode_numbered_items-returns-then-not-encode_items

pub fragments::encode_numbered_items-returns : goal.fragments::encode_numbered_items-returns
fragments::encode_numbered_items-returns = fragments.encode_numbered_items-returns

pub list::encode_at_least-returns-then-count-least : goal.list::encode_at_least-returns-then-count-least
list::encode_at_least-returns-then-count-least = lists.encode_at_least-returns-then-count-least

pub list::encode_at_least-overflow_add-state : goal.list::encode_at_least-overflow_add-state
list::encode_at_least-overflow_add-state = lists.encode_at_least-overflow_add-state

pub list::encode_at_least-returns : goal.list::encode_at_least-returns
list::encode_at_least-returns = lists.encode_at_least-returns

pub list::encode_set_at_least-returns-then-count-least : goal.list::encode_set_at_least-returns-then-count-least
list::encode_set_at_least-returns-then-count-least = lists.encode_set_at_least-returns-then-count-least

pub list::encode_set_at_least-overflow_add-state : goal.list::encode_set_at_least-overflow_add-state
list::encode_set_at_least-overflow_add-state = lists.encode_set_at_least-overflow_add-state

pub list::encode_set_at_least-returns : goal.list::encode_set_at_least-returns
list::encode_set_at_least-returns = lists.encode_set_at_least-returns

pub list::encode_list_of-returns-then-is_set : goal.list::encode_list_of-returns-then-is_set
list::encode_list_of-returns-then-is_set = lists.encode_list_of-returns-then-is_set

pub list::encode_list_of-returns-else-is_set : goal.list::encode_list_of-returns-else-is_set
list::encode_list_of-returns-else-is_set = lists.encode_list_of-returns-else-is_set

pub list::encode_added_list-returns-then-is_set : goal.list::encode_added_list-returns-then-is_set
list::encode_added_list-returns-then-is_set = lists.encode_added_list-returns-then-is_set

pub list::encode_added_list-overflow_add-state : goal.list::encode_added_list-overflow_add-state
list::encode_added_list-overflow_add-state = lists.encode_added_list-overflow_add-state

pub list::encode_added_list-returns : goal.list::encode_added_list-returns
list::encode_added_list-returns = lists.encode_added_list-returns

pub list::encode_added_set-returns-then-count-ge16384 : goal.list::encode_added_set-returns-then-count-ge16384
list::encode_added_set-returns-then-count-ge16384 = lists.encode_added_set-returns-then-count-ge16384

pub list::encode_added_set-overflow_add-state : goal.list::encode_added_set-overflow_add-state
list::encode_added_set-overflow_add-state = lists.encode_added_set-overflow_add-state

pub list::encode_added_set-returns : goal.list::encode_added_set-returns
list::encode_added_set-returns = lists.encode_added_set-returns

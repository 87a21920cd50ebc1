use Rattle.std.proofs.Common.{ℕ, ◌+◌, ◌-◌, ◌*◌, ◌^◌, ◌≤◌, Bool, true, false, length}
use Rattle.asn1_bits.specs.Bits.{bits}
use Rattle.asn1_schema.specs.PiecesOfParts.{bits_at}
use Rattle.asn1_x690.specs.declared.fault.FaultKind.TheVariants.{Extra}
use Rattle.asn1_x690.specs.Der.{in_order}
use Rattle.asn1_x690_decode.specs.Tables.{tables_of, types, elements}
use Rattle.asn1_x690_decode.specs.Decoding.{IsMoved}
use Rattle.asn1_x690_decode.specs.Members.{IsMember, MemberFault}
use Rattle.asn1_x690_decode.proofs.ItemSteps.{IsUnderway}
use Rattle.asn1_x690_decode.proofs.ListSteps.{IsLast}
use Rattle.asn1_x690_decode.proofs.MemberSteps.{IsUnderway as IsPart}
use Rattle.asn1_x690_decode.proofs.+decoding.Given as goal

abbrev pub decreases-element::decode_contents : goal.decreases-element::decode_contents
decreases-element::decode_contents l = 2 ^ 80 * l.depth

abbrev pub decreases-element::decode_element : goal.decreases-element::decode_element
decreases-element::decode_element l = 2 ^ 80 * l.depth + 1

abbrev pub decreases-choice::decode_alternative : goal.decreases-choice::decode_alternative
decreases-choice::decode_alternative l = 2 ^ 80 * l.depth + 1

abbrev pub decreases-choice::decode_added : goal.decreases-choice::decode_added
decreases-choice::decode_added l = 2 ^ 80 * l.depth + 2

abbrev pub decreases-choice::decode_choice : goal.decreases-choice::decode_choice
decreases-choice::decode_choice l = 2 ^ 80 * l.depth + 3

abbrev pub decreases-tagged::decode_bare_of : goal.decreases-tagged::decode_bare_of
decreases-tagged::decode_bare_of l = 2 ^ 80 * l.depth + 4

abbrev pub decreases-tagged::decode_bare : goal.decreases-tagged::decode_bare
decreases-tagged::decode_bare l = 2 ^ 80 * l.depth + 5

abbrev pub decreases-sequence::decode_value : goal.decreases-sequence::decode_value
decreases-sequence::decode_value l = 2 ^ 80 * l.depth + 2

abbrev pub decreases-sequence::decode_component : goal.decreases-sequence::decode_component
decreases-sequence::decode_component l = 2 ^ 80 * l.depth + 3

-- the components of a group are decoded while an addition is
abbrev more_if : Bool → ℕ
more_if false = 0
more_if true = 4

abbrev pub decreases-sequence::decode_member : goal.decreases-sequence::decode_member
decreases-sequence::decode_member l = 2 ^ 80 * l.depth + more_if l.are_additions + 4

abbrev pub decreases-sequence::decode_members : goal.decreases-sequence::decode_members
decreases-sequence::decode_members l = 2 ^ 80 * l.depth + more_if l.are_additions + 5

abbrev pub decreases-additions::decode_group : goal.decreases-additions::decode_group
decreases-additions::decode_group l = 2 ^ 80 * l.depth + 6

abbrev pub decreases-additions::decode_addition : goal.decreases-additions::decode_addition
decreases-additions::decode_addition l = 2 ^ 80 * l.depth + 7

abbrev pub decreases-additions::decode_additions : goal.decreases-additions::decode_additions
decreases-additions::decode_additions l = 2 ^ 80 * l.depth + 10

abbrev pub decreases-sequence::decode_sequence : goal.decreases-sequence::decode_sequence
decreases-sequence::decode_sequence l = 2 ^ 80 * l.depth + 11

abbrev pub decreases-list::decode_items : goal.decreases-list::decode_items
decreases-list::decode_items l = 2 ^ 80 * l.depth + 2

abbrev pub decreases-list::decode_list : goal.decreases-list::decode_list
decreases-list::decode_list l = 2 ^ 80 * l.depth + 3

abbrev pub decreases-tagged::decode_own : goal.decreases-tagged::decode_own
decreases-tagged::decode_own l = 2 ^ 80 * l.depth + 12

abbrev pub decreases-tagged::decode_by_tags : goal.decreases-tagged::decode_by_tags
decreases-tagged::decode_by_tags l = 2 ^ 80 * l.depth + 16 * length l.tags.now + 13

abbrev pub decreases-tagged::decode_in_tag_of : goal.decreases-tagged::decode_in_tag_of
decreases-tagged::decode_in_tag_of l = 2 ^ 80 * l.depth + 16 * length l.tags.now + 18

abbrev pub decreases-tagged::decode_in_tag : goal.decreases-tagged::decode_in_tag
decreases-tagged::decode_in_tag l = 2 ^ 80 * l.depth + 16 * length l.tags.now + 19

abbrev pub invariant-list::decode_items-loop-state : goal.invariant-list::decode_items-loop-state
invariant-list::decode_items-loop-state l = record {
  moved : IsMoved (bits l.context.octets.now) l.fn.state l.state;
  order : l.before ≤ l.state.at;
  few : l.count ≤ l.state.at;
  last : IsLast l.context l.fn.depth l.fn.node l.fn.item (bits_at (bits l.context.octets.now) l.before (l.state.at - l.before));
  underway : IsUnderway Extra l.fn.node
      (in_order (types l.context l.fn.depth) (tables_of l.context) l.fn.node l.fn.is_set (elements l.context l.fn.depth l.fn.item))
      l.context.tables.ranges.now (bits l.context.octets.now) l.fn.state l.state l.fn.parts l.parts
      (bits_at (bits l.context.octets.now) l.before (l.state.at - l.before)) l.count;
}

abbrev pub decreases-list::decode_items-loop-state : goal.decreases-list::decode_items-loop-state
decreases-list::decode_items-loop-state l = l.state.end - l.state.at

abbrev pub invariant-sequence::decode_members-loop-index : goal.invariant-sequence::decode_members-loop-index
invariant-sequence::decode_members-loop-index l = record {
  moved : IsMoved (bits l.context.octets.now) l.fn.state l.state;
  underway : IsPart (IsMember l.context l.fn.depth l.fn.node l.fn.are_additions)
      (MemberFault l.context l.fn.depth l.fn.node l.fn.are_additions) l.fn.rows.count l.fn.rows.from
      l.context.tables.ranges.now (bits l.context.octets.now) l.fn.state l.state l.fn.parts l.parts l.index;
}

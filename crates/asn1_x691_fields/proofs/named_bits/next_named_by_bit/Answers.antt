use Rattle.asn1_x691_fields.proofs.named_bits.next_named_by_bit.Goals as goal

pub returns-then-is_added-clause-read : goal.returns-then-is_added-clause-read
returns-then-is_added-clause-read c ranges = rw c.if-is_added.true (c.next_added_named.ensures.read ranges)

pub returns-clause-read : goal.returns-clause-read
returns-clause-read c ranges = rw c.if-is_added.false (c.next_named_of_root.ensures.read ranges)

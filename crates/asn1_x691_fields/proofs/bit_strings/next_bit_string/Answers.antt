use Rattle.asn1_x691_fields.proofs.bit_strings.next_bit_string.Goals as goal

pub returns-then-has_names-clause-read : goal.returns-then-has_names-clause-read
returns-then-has_names-clause-read c ranges = rw c.if-has_names.true (c.next_named_bit_string.ensures.read ranges)

pub returns-clause-read : goal.returns-clause-read
returns-clause-read c ranges = rw c.if-has_names.false (c.next_plain_bit_string.ensures.read ranges)

use Rattle.std.proofs.Common.{rules}
use Rattle.asn1_bits.proofs.bit_buffer.BitBuffer.reserve_bytes.Goals as goal

pub invariant_of-self : goal.invariant_of-self
invariant_of-self c = search rules

pub returns-then-additional-eq0-clause-free : goal.returns-then-additional-eq0-clause-free
returns-then-additional-eq0-clause-free c = search rules

pub returns-clause-same : goal.returns-clause-same
returns-clause-same c = search rules

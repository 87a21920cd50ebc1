use Rattle.asn1_bits.proofs.BufferLemmas.{filled-none}
use Rattle.asn1_bits.proofs.bit_buffer.BitBuffer.from_vec.Goals as goal

pub invariant_of-result : goal.invariant_of-result
invariant_of-result c = rw c.clear.ensures.items filled-none.0

pub returns : goal.returns
returns c = rw c.clear.ensures.items filled-none.1

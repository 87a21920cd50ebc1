use Rattle.asn1_bits.proofs.BufferLemmas.{filled-none}
use Rattle.asn1_bits.proofs.bit_buffer.BitBuffer.clear.Goals as goal

pub invariant_of-self : goal.invariant_of-self
invariant_of-self c = rw c.clear.ensures.items filled-none.0

pub returns : goal.returns
returns c = rw c.clear.ensures.items filled-none.1

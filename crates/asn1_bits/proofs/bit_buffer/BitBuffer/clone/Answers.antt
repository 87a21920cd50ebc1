use Rattle.std.proofs.Common.{arith, rules}
use Rattle.std.proofs.lemmas.Grind.{elements}
use Rattle.asn1_bits.proofs.bit_buffer.BitBuffer.clone.Goals as goal

pub invariant_of-result : goal.invariant_of-result
invariant_of-result c = grind (arith, elements)

pub returns-then-len-eq0-clause-free : goal.returns-then-len-eq0-clause-free
returns-then-len-eq0-clause-free c = search rules

pub returns-clause-list : goal.returns-clause-list
returns-clause-list c = grind (arith, elements)

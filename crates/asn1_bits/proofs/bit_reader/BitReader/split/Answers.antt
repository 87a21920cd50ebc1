use Rattle.std.proofs.Common.{rules}
use Rattle.asn1_bits.proofs.bit_reader.BitReader.split.Goals as goal

pub returns-then-count-len-clause-unchanged : goal.returns-then-count-len-clause-unchanged
returns-then-count-len-clause-unchanged c = search rules

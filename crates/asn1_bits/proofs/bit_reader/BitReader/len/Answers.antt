use Rattle.std.proofs.Common.{rules}
use Rattle.asn1_bits.proofs.bit_reader.BitReader.len.Goals as goal

pub returns-clause-len : goal.returns-clause-len
returns-clause-len c = search rules

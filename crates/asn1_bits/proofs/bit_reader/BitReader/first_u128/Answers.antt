use Rattle.std.proofs.Common.{rules}
use Rattle.asn1_bits.proofs.bit_reader.BitReader.first_u128.Goals as goal

pub returns-clause-number : goal.returns-clause-number
returns-clause-number c = search rules

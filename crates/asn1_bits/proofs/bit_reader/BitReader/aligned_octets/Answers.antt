use Rattle.std.proofs.Common.{rules}
use Rattle.asn1_bits.proofs.bit_reader.BitReader.aligned_octets.Goals as goal

pub returns-clause-aligned : goal.returns-clause-aligned
returns-clause-aligned c = search rules

use Rattle.std.proofs.Common.{rules}
use Rattle.asn1_bits.proofs.bit_reader.BitReader.bits.Goals as goal

pub returns : goal.returns
returns c = search rules

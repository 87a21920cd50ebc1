use Rattle.std.proofs.Common.{rules}
use Rattle.asn1_bits.proofs.bit_reader.BitReader.from_octets.Goals as goal

pub returns-clause-view : goal.returns-clause-view
returns-clause-view c = search rules

use Rattle.std.proofs.Common.{rules}
use Rattle.asn1_bits.proofs.bit_string.BitString.from_vec.Goals as goal

pub returns : goal.returns
returns c = search rules

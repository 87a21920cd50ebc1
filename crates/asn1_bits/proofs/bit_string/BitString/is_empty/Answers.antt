use Rattle.std.proofs.Common.{rules}
use Rattle.asn1_bits.proofs.bit_string.BitString.is_empty.Goals as goal

pub returns : goal.returns
returns c = search rules

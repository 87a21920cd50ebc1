use Rattle.std.proofs.Common.{rules}
use Rattle.asn1_bits.proofs.bit_string.BitStringPartialOrd.partial_cmp.Goals as goal

pub returns : goal.returns
returns c = search rules

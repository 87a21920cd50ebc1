use Rattle.std.proofs.Common.{rules}
use Rattle.asn1_bits.proofs.fixed_bit_string.FixedBitStringOrd.cmp.Goals as goal

pub returns : goal.returns
returns c = search rules

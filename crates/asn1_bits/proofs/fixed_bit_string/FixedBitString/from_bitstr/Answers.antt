use Rattle.std.proofs.Common.{rules}
use Rattle.asn1_bits.proofs.fixed_bit_string.FixedBitString.from_bitstr.Goals as goal

pub of_view-requires : goal.of_view-requires
of_view-requires c = search rules

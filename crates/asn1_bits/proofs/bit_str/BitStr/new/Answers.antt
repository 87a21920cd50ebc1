use Rattle.std.proofs.Common.{rules}
use Rattle.asn1_bits.proofs.bit_str.BitStr.new.Goals as goal

pub part_of-requires : goal.part_of-requires
part_of-requires c = search rules

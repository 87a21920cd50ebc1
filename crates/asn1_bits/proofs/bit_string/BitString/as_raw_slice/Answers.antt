use Rattle.std.proofs.Common.{rules}
use Rattle.asn1_bits.proofs.bit_string.BitString.as_raw_slice.Goals as goal

pub returns-clause-spelled : goal.returns-clause-spelled
returns-clause-spelled c = search rules

use Rattle.std.proofs.Common.{rules}
use Rattle.asn1_bits.proofs.bit_string.BitString.into_vec.Goals as goal

pub returns-clause-spelled : goal.returns-clause-spelled
returns-clause-spelled c = search rules

pub returns-clause-count : goal.returns-clause-count
returns-clause-count c = search rules

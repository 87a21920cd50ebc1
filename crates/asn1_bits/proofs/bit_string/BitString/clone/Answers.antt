use Rattle.std.proofs.Common.{rules}
use Rattle.asn1_bits.proofs.bit_string.BitString.clone.Goals as goal

pub returns-clause-list : goal.returns-clause-list
returns-clause-list c = search rules

use Rattle.std.proofs.Common.{rules}
use Rattle.asn1_bits.proofs.bit_string.to_bitstring.Goals as goal

pub returns-clause-list : goal.returns-clause-list
returns-clause-list c = search rules

pub returns-clause-len : goal.returns-clause-len
returns-clause-len c = search rules

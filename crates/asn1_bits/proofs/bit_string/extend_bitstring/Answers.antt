use Rattle.std.proofs.Common.{rules}
use Rattle.asn1_bits.proofs.bit_string.extend_bitstring.Goals as goal

pub returns-clause-ok : goal.returns-clause-ok
returns-clause-ok c = search rules

pub returns-clause-len : goal.returns-clause-len
returns-clause-len c = search rules

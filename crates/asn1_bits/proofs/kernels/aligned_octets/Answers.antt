use Rattle.std.proofs.Common.{rules}
use Rattle.asn1_bits.proofs.kernels.aligned_octets.Goals as goal

pub returns-clause-aligned : goal.returns-clause-aligned
returns-clause-aligned c = search rules

pub returns-clause-bits : goal.returns-clause-bits
returns-clause-bits c = search rules

pub returns-clause-count : goal.returns-clause-count
returns-clause-count c = search rules

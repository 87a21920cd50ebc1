use Rattle.std.proofs.Common.{rules}
use Rattle.asn1_bits.proofs.kernels.extend_vec_from_bitslice.Goals as goal

pub returns-clause-ok : goal.returns-clause-ok
returns-clause-ok c = search rules

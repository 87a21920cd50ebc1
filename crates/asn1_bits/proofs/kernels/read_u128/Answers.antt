use Rattle.std.proofs.Common.{arith}
use Rattle.std.proofs.lemmas.Grind.{common_steps}
use Rattle.asn1_bits.proofs.kernels.read_u128.Goals as goal

pub returns-clause-number : goal.returns-clause-number
returns-clause-number c = grind (arith, common_steps)

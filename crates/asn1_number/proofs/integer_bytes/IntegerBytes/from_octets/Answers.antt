use Rattle.std.proofs.Common.{arith}
use Rattle.std.proofs.lemmas.Grind.{common_steps}
use Rattle.asn1_number.proofs.integer_bytes.IntegerBytes.from_octets.Goals as goal

pub returns : goal.returns
returns c = grind (arith, common_steps)

use Rattle.std.proofs.Common.{arith}
use Rattle.std.proofs.lemmas.Grind.{elements}
use Rattle.asn1_bits.proofs.fixed_bit_string.FixedBitString.get.Goals as goal

pub returns : goal.returns
returns g c = grind (arith, elements)

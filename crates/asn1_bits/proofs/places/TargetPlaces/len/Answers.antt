use Rattle.std.proofs.Common.{arith}
use Rattle.asn1_bits.specs.Laws.DigitLaws.{length-bits}
use Rattle.asn1_bits.proofs.places.TargetPlaces.len.Goals as goal

pub returns : goal.returns
returns c = omega (arith, length-bits c.args.self.now.octets.now, c.octet_count.ensures)

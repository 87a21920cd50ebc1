use Rattle.std.proofs.Common.{arith}
use Rattle.asn1_bits.specs.Laws.DigitLaws.{length-bits}
use Rattle.asn1_bits.proofs.places.TargetPlaces.place.Goals as goal

pub or_word-requires-clause-within : goal.or_word-requires-clause-within
or_word-requires-clause-within c = omega (arith, length-bits c.args.self.now.octets.now, c.requires.within)

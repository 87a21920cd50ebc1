use Rattle.std.proofs.Common.{◌≡◌, rules, length, arith}
use Rattle.asn1_bits.specs.Laws.DigitLaws.{length-bits}
use Rattle.asn1_bits_and_numbers_tests.proofs.bits.places.CountedPlaces.len.Goals as goal

pub returns : goal.returns
returns c =
    let n : length c.args.self.now.octets ≡ 128 = search rules in
    omega (arith, length-bits c.args.self.now.octets)

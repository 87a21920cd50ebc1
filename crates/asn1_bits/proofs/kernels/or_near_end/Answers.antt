use Rattle.std.proofs.Common.{Bool, List, length, ap, arith}
use Rattle.asn1_bits.specs.Bits.{bits}
use Rattle.asn1_bits.specs.BitStr.{bits_of}
use Rattle.asn1_bits.specs.Laws.DigitLaws.{length-bits}
use Rattle.asn1_bits.proofs.OredLemmas.{length-ored}
use Rattle.asn1_bits.proofs.kernels.or_near_end.Goals as goal

pub place_word-requires-clause-within : goal.place_word-requires-clause-within
place_word-requires-clause-within c = omega (arith, length-bits c.args.target.octets.now, c.requires.room)

pub returns-clause-length : goal.returns-clause-length
returns-clause-length c =
    let old = c.args.target.octets.now in
    omega (
      arith,
      length-bits c.place_word.new.target.octets.now,
      ap (λ (l : List Bool). length l) c.place_word.ensures.list,
      length-ored (bits old) c.args.position (bits_of c.args.src),
      length-bits old,
    )

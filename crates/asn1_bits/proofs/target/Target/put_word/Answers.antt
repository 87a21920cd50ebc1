use Rattle.std.proofs.Common.{◌%◌, arith}
use Rattle.asn1_bits.specs.Bits.{bits}
use Rattle.asn1_bits.specs.Laws.DigitLaws.{length-bits}
use Rattle.asn1_bits.proofs.PutLemmas.{put-moved, moved-below}
use Rattle.asn1_bits.proofs.target.Target.put_word.Goals as goal

pub add_octets-requires-clause-below : goal.add_octets-requires-clause-below
add_octets-requires-clause-below c =
    moved-below 64 c.args.word c.args.width (c.args.position % 8) c.requires.width c.requires.below

pub returns-clause-bits : goal.returns-clause-bits
returns-clause-bits c =
    let old = c.args.self.now.octets.now in
    put-moved 8 (bits old) (bits c.add_octets.new.dst) c.args.position c.args.word c.args.width c.requires.some
    c.requires.width (omega (arith, length-bits old, c.requires.eight)) c.requires.below c.add_octets.ensures

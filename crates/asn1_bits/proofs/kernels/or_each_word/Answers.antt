use Rattle.std.proofs.Common.{◌+◌, ◌*◌, ◌/◌, ◌%◌, ap, ◌∙◌, refl, arith}
use Rattle.std.proofs.lemmas.List.{take_all}
use Rattle.asn1_bits.specs.Bits.{bits, ored}
use Rattle.asn1_bits.specs.BitStr.{bits_of}
use Rattle.asn1_bits.specs.Laws.DigitLaws.{length-bits}
use Rattle.asn1_bits.proofs.RunLemmas.{more-placed}
use Rattle.asn1_bits.proofs.kernels.or_each_word.Goals as goal

pub returns-then-tail-gt0-clause-bits : goal.returns-then-tail-gt0-clause-bits
returns-then-tail-gt0-clause-bits c =
    let len = c.len-len.result in
    let place = c.args.position in
    let count = len / 64 in
    let src = bits_of c.args.src in
    let old = bits c.args.dst.now.octets.now in
    let all = c.len-len.ensures in
    more-placed old (bits c.or_whole_words.new.dst.octets.now) (bits c.or_word.new.self.octets.now) src place (64 * count) (len % 64)
    (place + 64 * count) len
    (c.or_whole_words.ensures.bits ∙ ap (ored old place) c.front.ensures.list)
    (c.or_word.ensures.bits ∙ ap (ored (bits c.or_whole_words.new.dst.octets.now) (place + 64 * count)) c.word.ensures)
    refl (omega arith) (omega (arith, all.list))
    (omega (arith, length-bits c.args.dst.now.octets.now, all.len, c.requires.room))
    ∙ ap (ored old place) (take_all len src (omega (arith, all.list)))

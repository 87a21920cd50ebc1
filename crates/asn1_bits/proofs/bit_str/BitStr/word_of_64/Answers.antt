use Rattle.std.proofs.Common.{◌+◌, ◌/◌, ◌%◌, arith}
use Rattle.asn1_bits.specs.BitStr.{view_of}
use Rattle.asn1_bits.specs.Laws.ViewLaws.{whole_read}
use Rattle.asn1_bits.proofs.bit_str.BitStr.word_of_64.Goals as goal

pub returns : goal.returns
returns c =
    let b = c.args.self.now in
    let at = c.args.at in
    let low = b.shift + at % 8 in
    whole_read (view_of b) at (b.octet + at / 8 + low / 8) (low % 8) c.whole_word.result (omega arith) c.requires
    c.whole_word.ensures

use Rattle.std.proofs.Common.{◌≡◌, length, refl, ◌∙◌, arith}
use Rattle.asn1_bits.specs.BitStr.{view_of, bits_of}
use Rattle.asn1_bits.specs.Laws.ViewLaws.{length-list_of}
use Rattle.asn1_bits.proofs.OrderLemmas.{differ}
use Rattle.asn1_bits.proofs.bit_str.BitStrOrd.cmp.Goals as goal

pub returns-then-one-two : goal.returns-then-one-two
returns-then-one-two c =
    let a = c.args.self.now in
    let b = c.args.other.now in
    let m : length (bits_of a) ≡ a.len = length-list_of (view_of a) a.within in
    let n : length (bits_of b) ≡ b.len = length-list_of (view_of b) b.within in
    c.cmp.ensures
    ∙ differ (bits_of a) (bits_of b) 0 64 c.first_word-one.result c.first_word-two.result refl
    (omega (arith, m, c.if-self-ge64.true)) (omega (arith, n, c.if-other-ge64.true)) c.first_word-one.ensures
    c.first_word-two.ensures c.if-one-two.true

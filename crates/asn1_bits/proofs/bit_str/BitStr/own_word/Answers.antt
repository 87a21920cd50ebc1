use Rattle.std.proofs.Common.{ℕ, ap, ◌∙◌}
use Rattle.asn1_bits.specs.Bits.{digits}
use Rattle.asn1_bits.specs.BitStr.{view_of, bits_of}
use Rattle.asn1_bits.specs.View.{list_of}
use Rattle.asn1_bits.specs.Laws.NumberLaws.{digits_of-number}
use Rattle.asn1_bits.specs.Laws.ViewLaws.{length-list_of}
use Rattle.asn1_bits.proofs.bit_str.BitStr.own_word.Goals as goal

pub returns : goal.returns
unfolding list_of
returns c =
    let b = c.args.self.now in
    ap (λ (n : ℕ). digits n b.len) c.read_word.ensures
    ∙ digits_of-number (bits_of b) b.len (length-list_of (view_of b) b.within)

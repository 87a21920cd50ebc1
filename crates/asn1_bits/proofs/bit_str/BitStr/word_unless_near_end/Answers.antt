use Rattle.std.proofs.Common.{rules, ℕ, ap, ◌∙◌}
use Rattle.asn1_bits.specs.Bits.{digits}
use Rattle.asn1_bits.specs.BitStr.{view_of, bits_of}
use Rattle.asn1_bits.specs.View.{list_of}
use Rattle.asn1_bits.specs.Laws.NumberLaws.{digits_of-number}
use Rattle.asn1_bits.specs.Laws.ViewLaws.{length-list_of}
use Rattle.asn1_bits.proofs.bit_str.BitStr.word_unless_near_end.Goals as goal

pub returns-then-self-gt57 : goal.returns-then-self-gt57
unfolding list_of
returns-then-self-gt57 c =
    let b = c.args.self.now in
    ap (λ (n : ℕ). digits n b.len) c.read_64.ensures
    ∙ digits_of-number (bits_of b) b.len (length-list_of (view_of b) b.within)

pub returns : goal.returns
unfolding list_of
returns c =
    let b = c.args.self.now in
    ap (λ (n : ℕ). digits n b.len) c.read_57.ensures
    ∙ digits_of-number (bits_of b) b.len (length-list_of (view_of b) b.within)

pub returns-then-self : goal.returns-then-self
returns-then-self c = search rules

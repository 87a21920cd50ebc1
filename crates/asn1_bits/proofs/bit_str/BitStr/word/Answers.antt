use Rattle.std.proofs.Common.{◌≡◌, ℕ, ◌+◌, ◌*◌, ◌/◌, ◌%◌, take, drop, ap, ◌∙◌, arith}
use Rattle.std.proofs.lemmas.List.{length-take, length-drop}
use Rattle.asn1_bits.specs.Bits.{bits, digits, number}
use Rattle.asn1_bits.specs.BitStr.{view_of, bits_of}
use Rattle.asn1_bits.specs.Laws.NumberLaws.{digits_of-number}
use Rattle.asn1_bits.specs.Laws.ViewLaws.{length-list_of}
use Rattle.asn1_bits.proofs.ReadWideLemmas.{cut-storage}
use Rattle.asn1_bits.proofs.bit_str.BitStr.word.Goals as goal

pub returns : goal.returns
returns c =
    let b = c.args.self.now in
    let at = c.args.at in
    let low = b.shift + at % 8 in
    let piece = take c.args.width (drop at (bits_of b)) in
    let octet = b.octet + at / 8 + low / 8 in
    let from : 8 * octet + low % 8 ≡ 8 * b.octet + b.shift + at = omega arith in
    ap (λ (n : ℕ). digits n c.args.width) (c.read_word.ensures
    ∙ ap (λ (k : ℕ). number (take c.args.width (drop k (bits b.storage.now)))) from
    ∙ ap number (cut-storage (view_of b) at c.args.width c.requires.within))
    ∙ digits_of-number piece c.args.width
    (omega (
      arith,
      length-take c.args.width (drop at (bits_of b)),
      length-drop at (bits_of b),
      length-list_of
          (view_of b) b.within,
      c.requires.within,
    ))

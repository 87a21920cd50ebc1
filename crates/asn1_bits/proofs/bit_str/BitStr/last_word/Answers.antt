use Rattle.std.proofs.Common.{◌≡◌, ℕ, ◌+◌, ◌-◌, ◌*◌, ◌/◌, length, take, drop, ap, ◌∙◌, arith}
use Rattle.std.proofs.lemmas.List.{length-take, length-drop}
use Rattle.asn1_bits.specs.Bits.{bits, digits, number}
use Rattle.asn1_bits.specs.BitStr.{view_of, bits_of}
use Rattle.asn1_bits.specs.Laws.NumberLaws.{digits_of-number}
use Rattle.asn1_bits.specs.Laws.ViewLaws.{length-list_of}
use Rattle.asn1_bits.proofs.ReadWideLemmas.{cut-storage}
use Rattle.asn1_bits.proofs.bit_str.BitStr.last_word.Goals as goal

pub returns : goal.returns
returns c =
    let b = c.args.self.now in
    let at = b.len - 64 in
    let piece = take 64 (drop at (bits_of b)) in
    let from : 8 * (b.octet + (b.len / 8 - 8)) + b.shift ≡ 8 * b.octet + b.shift + at =
    omega (arith, c.requires.some, c.requires.whole) in
    let many : length (bits_of b) ≡ b.len = length-list_of (view_of b) b.within in
    ap (λ (n : ℕ). digits n 64) (c.read_64.ensures
    ∙ ap (λ (k : ℕ). number (take 64 (drop k (bits b.storage.now)))) from
    ∙ ap number (cut-storage (view_of b) at 64 (omega (arith, c.requires.some))))
    ∙ digits_of-number piece 64
    (omega (arith, length-take 64 (drop at (bits_of b)), length-drop at (bits_of b), many, c.requires.some))

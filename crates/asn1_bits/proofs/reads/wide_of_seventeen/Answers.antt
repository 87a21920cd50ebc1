use Rattle.std.proofs.Common.{◌≡◌, ℕ, ◌+◌, ◌*◌, ◌%◌, ◌^◌, take, drop, sym, ap, ◌∙◌, arith}
use Rattle.std.specs.Prelude.{bit_or}
use Rattle.std.proofs.lemmas.List.{drop-drop}
use Rattle.asn1_bits.specs.Bits.{bits, digits}
use Rattle.asn1_bits.specs.Laws.DigitLaws.{length-drop_bits}
use Rattle.asn1_bits.proofs.ReadWideLemmas.{pair-digits, sixteen-digits, eight-later}
use Rattle.asn1_bits.proofs.reads.wide_of_seventeen.Goals as goal

pub returns : goal.returns
returns c =
    let octets = c.args.octets.now in
    let first = c.args.first in
    let shift = c.args.shift in
    let place = 8 * first in
    let list = drop place (bits octets) in
    let a = c.digits_from-high.result in
    let b = c.word_of_nine-low.result in
    let next : 8 * (first + 8) + shift ≡ place + shift + 64 = omega arith in
    let high : digits a 64 ≡ take 64 (drop (place + shift) (bits octets)) =
    c.digits_from-high.ensures
    ∙ sixteen-digits list c.load.result c.load-2.result shift c.requires.shift
    (omega (arith, length-drop_bits octets place, c.requires.seventeen)) c.load.ensures
    (c.load-2.ensures ∙ eight-later octets first 64)
    ∙ ap (take 64) (drop-drop shift place (bits octets)) in
    let low : digits b 64 ≡ take 64 (drop 64 (drop (place + shift) (bits octets))) =
    c.word_of_nine-low.ensures
    ∙ ap (take 64) (ap (λ (k : ℕ). drop k (bits octets)) next ∙ sym (drop-drop 64 (place + shift) (bits octets))) in
    ap (λ (n : ℕ). digits (bit_or (n * 2 ^ 64 % 2 ^ 128) c.from-2.result) 128) c.from.ensures
    ∙ ap (λ (n : ℕ). digits (bit_or (a * 2 ^ 64 % 2 ^ 128) n) 128) c.from-2.ensures
    ∙ pair-digits (drop (place + shift) (bits octets)) a b (omega arith) (omega arith) high low

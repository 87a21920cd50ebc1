use Rattle.std.proofs.Common.{ℕ, ◌+◌, ◌*◌, ◌%◌, ◌^◌, ◌++◌, get_or, take, drop, sym, ap, ◌∙◌, arith}
use Rattle.std.proofs.lemmas.List.{drop-drop}
use Rattle.asn1_bits.specs.Bits.{bits, digits}
use Rattle.asn1_bits.specs.Laws.DigitLaws.{length-drop_bits}
use Rattle.asn1_bits.proofs.ReadWideLemmas.{nine-digits, eight-later}
use Rattle.asn1_bits.proofs.WindowLemmas.{bits-octet}
use Rattle.asn1_bits.proofs.reads.word_of_nine.Goals as goal

pub returns : goal.returns
returns c =
    let octets = c.args.octets.now in
    let first = c.args.first in
    let shift = c.args.shift in
    let place = 8 * first in
    let word = c.load.result in
    c.digits_from.ensures
    ∙ ap (λ (n : ℕ). take 64 (drop shift (digits word 64 ++ digits (n * 2 ^ 56 % 2 ^ 64) 64))) c.from-ninth.ensures
    ∙ nine-digits (drop place (bits octets)) word (get_or octets (first + 8) 0) shift c.requires.shift
    (omega (arith, length-drop_bits octets place, c.requires.nine)) c.load.ensures
    (sym (bits-octet octets (first + 8) (omega (arith, c.requires.nine))) ∙ eight-later octets first 8)
    ∙ ap (take 64) (drop-drop shift place (bits octets))

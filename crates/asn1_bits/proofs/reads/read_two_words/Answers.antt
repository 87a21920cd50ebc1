use Rattle.std.proofs.Common.{ℕ, ◌+◌, ◌-◌, ◌*◌, ◌/◌, ◌%◌, ◌^◌, ap, ◌∙◌, arith}
use Rattle.std.specs.Prelude.{bit_or}
use Rattle.asn1_bits.specs.Bits.{bits}
use Rattle.asn1_bits.proofs.ReadWideLemmas.{read-two}
use Rattle.asn1_bits.proofs.reads.read_two_words.Goals as goal

pub returns : goal.returns
returns c =
    let list = bits c.args.octets.now in
    let width = c.args.width in
    let shift = c.args.shift in
    let place = 8 * c.args.first + shift in
    let low = shift + (width - 64) in
    let last = 8 * (c.args.first + low / 8) + low % 8 in
    let high = c.whole_word-high.result in
    let rest = c.whole_word-rest.result in
    ap (λ (m : ℕ). bit_or (m * 2 ^ 64 % 2 ^ 128) c.from-2.result) c.from.ensures
    ∙ ap (λ (m : ℕ). bit_or (high / 2 ^ (128 - width) * 2 ^ 64 % 2 ^ 128) m) c.from-2.ensures
    ∙ read-two list place last width high rest (omega (arith, c.requires.many)) c.requires.width (omega arith)
    (omega arith) (omega arith) c.whole_word-high.ensures c.whole_word-rest.ensures

use Rattle.std.proofs.Common.{◌≡◌, ℕ, ◌+◌, ◌-◌, ◌*◌, ◌/◌, ◌%◌, ◌^◌, drop, ap, ◌∙◌, arith}
use Rattle.asn1_bits.specs.Bits.{bits}
use Rattle.asn1_bits.proofs.ReadWideLemmas.{read-word, read-top}
use Rattle.asn1_bits.proofs.reads.read_64.Goals as goal

pub returns-then-first-octets : goal.returns-then-first-octets
returns-then-first-octets c =
    let width = c.args.width in
    let same : (64 - width) % 64 ≡ 64 - width = omega (arith, c.requires.some, c.requires.width) in
    ap (λ (k : ℕ). c.word_of_nine.result / 2 ^ k) same
    ∙ read-top (drop (8 * c.args.first + c.args.shift) (bits c.args.octets.now)) 64 width c.word_of_nine.result
    c.requires.width (omega (arith, c.word_of_nine.type_inv)) c.word_of_nine.ensures

pub returns : goal.returns
returns c =
    let width = c.args.width in
    let same : (64 - width) % 64 ≡ 64 - width = omega (arith, c.requires.some, c.requires.width) in
    ap (λ (k : ℕ). c.load.result * 2 ^ c.args.shift % 2 ^ 64 / 2 ^ k) same
    ∙ read-word (bits c.args.octets.now) (8 * c.args.first) c.args.shift width c.load.result
    (omega (arith, c.requires, c.if-first-octets.false)) c.load.ensures

use Rattle.std.proofs.Common.{◌≡◌, ℕ, ◌-◌, ◌*◌, ◌/◌, ◌%◌, ◌^◌, ap, ◌∙◌, arith}
use Rattle.asn1_bits.specs.Bits.{bits}
use Rattle.asn1_bits.proofs.ReadWideLemmas.{read-word}
use Rattle.asn1_bits.proofs.reads.read_57.Goals as goal

pub returns-then-first-octets : goal.returns-then-first-octets
returns-then-first-octets c =
    let width = c.args.width in
    let same : (64 - width) % 64 ≡ 64 - width = omega (arith, c.if-width-gt0.true, c.requires.width) in
    ap (λ (k : ℕ). c.load.result * 2 ^ c.args.shift % 2 ^ 64 / 2 ^ k) same
    ∙ read-word (bits c.args.octets.now) (8 * c.args.first) c.args.shift width c.load.result
    (omega (arith, c.requires)) c.load.ensures

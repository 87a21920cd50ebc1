use Rattle.std.proofs.Common.{◌≡◌, ℕ, ◌+◌, ◌-◌, ◌*◌, ◌/◌, ◌%◌, ◌^◌, drop, ap, ◌∙◌, arith}
use Rattle.asn1_bits.specs.Bits.{bits}
use Rattle.asn1_bits.proofs.ReadWideLemmas.{read-top}
use Rattle.asn1_bits.proofs.reads.read_seventeen.Goals as goal

pub returns : goal.returns
returns c =
    let width = c.args.width in
    let same : (128 - width) % 64 ≡ 128 - width = omega (arith, c.requires.many) in
    ap (λ (k : ℕ). c.wide_of_seventeen.result / 2 ^ k) same
    ∙ read-top (drop (8 * c.args.first + c.args.shift) (bits c.args.octets.now)) 128 width c.wide_of_seventeen.result
    c.requires.width (omega (arith, c.wide_of_seventeen.type_inv)) c.wide_of_seventeen.ensures

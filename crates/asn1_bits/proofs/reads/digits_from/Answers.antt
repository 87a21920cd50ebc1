use Rattle.std.proofs.Common.{ℕ, ◌*◌, ◌/◌, ◌%◌, ◌^◌, ◌≡◌, ap, ◌∙◌, arith}
use Rattle.std.specs.Prelude.{bit_or}
use Rattle.asn1_bits.specs.Bits.{digits}
use Rattle.asn1_bits.proofs.ReadWideLemmas.{from-two}
use Rattle.asn1_bits.proofs.reads.digits_from.Goals as goal

pub returns : goal.returns
returns c =
    let a = c.args.high in
    let b = c.args.low in
    let shift = c.args.shift in
    let same : shift % 64 ≡ shift = omega (arith, c.requires) in
    ap (λ (n : ℕ). digits (bit_or (n * 2 ^ 64 % 2 ^ 128) c.from-2.result * 2 ^ (shift % 64) % 2 ^ 128 / 2 ^ 64) 64)
    c.from.ensures
    ∙ ap (λ (n : ℕ). digits (bit_or (a * 2 ^ 64 % 2 ^ 128) n * 2 ^ (shift % 64) % 2 ^ 128 / 2 ^ 64) 64) c.from-2.ensures
    ∙ ap (λ (k : ℕ). digits (bit_or (a * 2 ^ 64 % 2 ^ 128) b * 2 ^ k % 2 ^ 128 / 2 ^ 64) 64) same
    ∙ from-two a b shift c.requires (omega arith) (omega arith)

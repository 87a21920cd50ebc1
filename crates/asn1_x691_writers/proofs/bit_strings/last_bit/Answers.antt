use Rattle.std.proofs.Common.{◌≡◌, ℕ, ◌+◌, ◌-◌, sym, ap, ◌∙◌, arith}
use Rattle.asn1_bits.specs.Bits.{bits, number}
use Rattle.asn1_bits.specs.Laws.NumberLaws.{number_of-digits}
use Rattle.asn1_schema.specs.PiecesOfParts.{bits_at}
use Rattle.asn1_x691_writers.proofs.bit_strings.last_bit.Goals as goal

pub returns : goal.returns
returns c =
    let e : c.args.span.at + (c.args.span.count - 1) ≡ c.args.span.at + c.args.span.count - 1 = omega (arith, c.requires.some) in
    sym (number_of-digits c.read_few.result 1 c.read_few.ensures.below) ∙ ap number c.read_few.ensures.digits
    ∙ ap (λ (k : ℕ). number (bits_at (bits c.args.source.now) k 1)) e

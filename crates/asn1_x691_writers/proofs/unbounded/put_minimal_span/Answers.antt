use Rattle.std.proofs.Common.{ℕ, ◌-◌, ◌%◌, ◌^◌, ◌≤◌, length, sym, subst, arith}
use Rattle.asn1_bits.specs.Bits.{bits, digits, number}
use Rattle.asn1_bits.specs.Laws.DigitLaws.{length-bits}
use Rattle.asn1_schema.specs.PiecesOfParts.{bits_of}
use Rattle.asn1_x691_fields.specs.Steps.{front_length}
use Rattle.asn1_x691_writers.specs.GrownSteps.{grown_both}
use Rattle.asn1_x691_writers.specs.SpanSteps.{minimal_span}
use Rattle.asn1_x691_writers.proofs.unbounded.put_minimal_span.Goals as goal

pub returns : goal.returns
returns c aligned node =
    let span = c.args.span in
    let pad = (8 - span.count % 8) % 8 in
    let list = bits_of (bits c.args.source.now) span in
    let size = front_length (bits c.args.source.now) span.at span.count (omega (arith, c.requires.inside, length-bits c.args.source.now)) in
    let first : 2 ^ (length list - 1) ≤ number list = subst (λ (k : ℕ). 2 ^ (k - 1) ≤ number list) (sym size) c.requires.first in
    minimal_span aligned node c.args.count pad list c.args.octets.now c.put_bits.new.octets c.args.at c.put_bits.result
    (omega (arith, size, c.requires.count, c.requires.some)) (omega arith) (omega (arith, size, c.requires.some)) first
    (grown_both c.args.octets.now c.put_number-zeros.new.octets c.put_bits.new.octets c.args.at c.put_number-zeros.result c.put_bits.result
    (digits 0 pad) list c.put_number-zeros.ensures c.put_bits.ensures)

use Rattle.std.proofs.Common.{◌≡◌, ℕ, ◌+◌, ◌-◌, ◌%◌, ◌^◌, ◌≤◌, List, ◌∷◌, ◌++◌, Bool, length, replicate, sym, ap, ◌∙◌, subst, arith}
use Rattle.asn1_bits.specs.Bits.{bits}
use Rattle.asn1_bits.specs.Laws.DigitLaws.{length-bits}
use Rattle.asn1_schema.specs.Encodings.{anywhere}
use Rattle.asn1_schema.specs.PiecesOfParts.{bits_at, bits_of, signed_number}
use Rattle.asn1_x691.specs.Fields.{signed_octets}
use Rattle.asn1_x691_fields.specs.Numbers.{distance}
use Rattle.asn1_x691_fields.specs.Steps.{front_length}
use Rattle.asn1_x691_writers.specs.Written.{IsGrown, IsWritten}
use Rattle.asn1_x691_writers.specs.DigitSteps.{by_first}
use Rattle.asn1_x691_writers.specs.GrownSteps.{grown_both}
use Rattle.asn1_x691_writers.specs.SpanSteps.{signed_span}
use Rattle.asn1_x691_writers.proofs.unbounded.put_signed_span.Goals as goal

pub returns : goal.returns
returns c aligned node =
    let span = c.args.span in
    let source = bits c.args.source.now in
    let pad = (8 - span.count % 8) % 8 in
    let b = c.bit_at.result in
    let l = bits_at source (span.at + 1) (span.count - 1) in
    let is : bits_of source span ≡ b ∷ l = by_first source span.at span.count b (omega (arith, c.requires.some)) c.bit_at.ensures in
    let size = front_length source span.at span.count (omega (arith, c.requires.inside, length-bits c.args.source.now)) in
    let count : length (b ∷ l) ≡ span.count = sym (ap length is) ∙ size in
    let first : 2 ^ (length (b ∷ l) - 2) ≤ distance (signed_number (b ∷ l)) =
    subst (λ (k : ℕ). 2 ^ (k - 2) ≤ distance (signed_number (b ∷ l))) (sym count)
    (subst (λ (m : List Bool). 2 ^ (span.count - 2) ≤ distance (signed_number m)) is c.requires.first) in
    let grown : IsGrown c.args.octets.now c.args.at c.put_bits.new.octets c.put_bits.result (replicate pad b ++ (b ∷ l)) =
    grown_both c.args.octets.now c.put_number-signs.new.octets c.put_bits.new.octets c.args.at c.put_number-signs.result c.put_bits.result
    (replicate pad b) (b ∷ l)
    (subst (λ (m : List Bool). IsGrown c.args.octets.now c.args.at c.put_number-signs.new.octets c.put_number-signs.result m)
    c.sign_bits.ensures.digits c.put_number-signs.ensures)
    (subst (λ (m : List Bool). IsGrown c.put_number-signs.new.octets c.put_number-signs.result c.put_bits.new.octets c.put_bits.result m)
    is c.put_bits.ensures) in
    subst
    (λ (m : List Bool). IsWritten aligned (anywhere (signed_octets c.args.count node)) (signed_number m) c.args.octets.now c.args.at
    c.put_bits.new.octets c.put_bits.result) (sym is)
    (signed_span aligned node c.args.count pad b l c.args.octets.now c.put_bits.new.octets c.args.at c.put_bits.result
    (omega (arith, count, c.requires.count, c.requires.some)) (omega arith) (omega (arith, count, c.requires.some)) first grown)

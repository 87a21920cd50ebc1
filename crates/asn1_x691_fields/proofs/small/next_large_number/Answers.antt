use Rattle.asn1_bits.specs.Bits.{bits, number}
use Rattle.asn1_schema.specs.Encodings.{anywhere}
use Rattle.asn1_schema.specs.PiecesOfParts.{bits_of, natural_of}
use Rattle.asn1_x691.specs.Fields.{at_least_64, semi_constrained}
use Rattle.asn1_x691_fields.specs.NumberSteps.{turn_read}
use Rattle.asn1_x691_fields.proofs.small.next_large_number.Goals as goal

pub returns-clause-read : goal.returns-clause-read
returns-clause-read c =
    let node = c.args.node in
    let list = bits c.args.octets.now in
    turn_read list c.args.state.now c.next_semi_constrained.new.state c.next_at_least_64.new.state
    (number (bits_of list c.in_ok-span.span)) (λ n. natural_of list n)
    (semi_constrained c.args.is_aligned node) (λ n m. m) (λ n. anywhere (at_least_64 node n))
    c.next_at_least_64.result c.requires.within c.in_ok-span.ensures.onward c.in_ok-span.ensures.read c.next_at_least_64.ensures.read

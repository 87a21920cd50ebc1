use Rattle.asn1_bits.specs.Bits.{bits}
use Rattle.asn1_schema.specs.Encodings.{number}
use Rattle.asn1_x691.specs.declared.fault.FaultKind.TheVariants.{Short}
use Rattle.asn1_x691.specs.Fields.{length_after}
use Rattle.asn1_x691_fields.specs.NumberSteps.{then_read}
use Rattle.asn1_x691_fields.proofs.lengths.next_length_octets.Goals as goal

pub returns-clause-read : goal.returns-clause-read
returns-clause-read c =
    then_read (bits c.args.octets.now) c.args.state.now c.next_word.new.state c.next_length_after.new.state c.in_ok-first.first (λ n. n)
    (number 8 Short c.args.node) (λ first n. n) (λ first. length_after c.args.node first) c.next_length_after.result
    c.in_ok-first.ensures.read c.next_length_after.ensures.read

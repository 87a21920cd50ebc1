use Rattle.std.proofs.Common.{◌≡◌, ◌<◌}
use Rattle.asn1_bits.specs.Bits.{bits}
use Rattle.asn1_schema.specs.Encodings.{number, anywhere, in_case}
use Rattle.asn1_schema.specs.PiecesOfParts.{natural_of}
use Rattle.asn1_x691.specs.declared.fault.FaultKind.TheVariants.{Short}
use Rattle.asn1_x691.specs.Fields.{large_number}
use Rattle.asn1_x691_fields.specs.NumberSteps.{turn_read}
use Rattle.asn1_x691_fields.proofs.small.next_small_number.Goals as goal

pub returns-clause-read : goal.returns-clause-read
returns-clause-read c =
    let node = c.args.node in
    let list = bits c.args.octets.now in
    turn_read list c.args.state.now c.next_word.new.state c.next_small_or_large.new.state c.in_ok-bit.bit (λ n. natural_of list n)
    (anywhere (number 1 Short node)) (λ bit n. n)
    (λ bit. in_case (bit ≡ 0) (anywhere (number 6 Short node)) (0 < bit) (large_number c.args.is_aligned node))
    c.next_small_or_large.result c.requires.within c.in_ok-bit.ensures.onward c.in_ok-bit.ensures.read c.next_small_or_large.ensures.read

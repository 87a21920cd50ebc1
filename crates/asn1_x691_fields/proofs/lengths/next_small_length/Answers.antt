use Rattle.std.proofs.Common.{◌≡◌, ◌<◌}
use Rattle.asn1_bits.specs.Bits.{bits}
use Rattle.asn1_schema.specs.Encodings.{number, anywhere, in_case}
use Rattle.asn1_x691.specs.declared.fault.FaultKind.TheVariants.{Short}
use Rattle.asn1_x691.specs.Fields.{distance_from_one, large_length}
use Rattle.asn1_x691_fields.specs.NumberSteps.{turn_read}
use Rattle.asn1_x691_fields.proofs.lengths.next_small_length.Goals as goal

pub returns-clause-read : goal.returns-clause-read
returns-clause-read c =
    let node = c.args.node in
    turn_read (bits c.args.octets.now) c.args.state.now c.next_word.new.state c.next_small_or_large.new.state c.in_ok-bit.bit (λ n. n)
    (anywhere (number 1 Short node)) (λ bit n. n)
    (λ bit. in_case (bit ≡ 0) (anywhere (distance_from_one node)) (0 < bit) (large_length c.args.is_aligned node))
    c.next_small_or_large.result c.requires.within c.in_ok-bit.ensures.onward c.in_ok-bit.ensures.read c.next_small_or_large.ensures.read

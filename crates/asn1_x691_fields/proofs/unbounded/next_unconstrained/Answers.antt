use Rattle.std.proofs.Common.{◌≡◌, ◌<◌}
use Rattle.asn1_bits.specs.Bits.{bits}
use Rattle.asn1_schema.specs.PiecesOfParts.{bits_of, signed_number}
use Rattle.asn1_schema.specs.Encodings.{anywhere, invalid, in_case}
use Rattle.asn1_x691.specs.declared.fault.FaultKind.TheVariants.{NotMinimal}
use Rattle.asn1_x691.specs.Fields.{on_octet, length_of, signed_octets}
use Rattle.asn1_x691_fields.specs.NumberSteps.{turn_read}
use Rattle.asn1_x691_fields.proofs.unbounded.next_unconstrained.Goals as goal

pub returns-clause-read : goal.returns-clause-read
returns-clause-read c =
    let list = bits c.args.octets.now in
    let node = c.args.node in
    turn_read list c.args.state.now c.next_length.new.state c.next_signed_after_count.new.state c.in_ok-count.count (λ s. signed_number (bits_of list s))
    (length_of c.args.is_aligned node) (λ count d. d)
    (λ count. in_case (0 < count) (on_octet c.args.is_aligned node (signed_octets count node)) (count ≡ 0) (anywhere (invalid NotMinimal node)))
    c.next_signed_after_count.result c.requires.within c.in_ok-count.ensures.onward c.in_ok-count.ensures.read c.next_signed_after_count.ensures.read

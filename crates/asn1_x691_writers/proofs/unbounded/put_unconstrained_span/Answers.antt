use Rattle.std.proofs.Common.{◌≡◌, ◌+◌, ◌/◌, ◌<◌, ℕ, ℤ, arith}
use Rattle.asn1_bits.specs.Bits.{bits}
use Rattle.asn1_schema.specs.Encodings.{Encoding, anywhere, invalid, in_case}
use Rattle.asn1_schema.specs.PiecesOfParts.{bits_of, signed_number}
use Rattle.asn1_x691.specs.declared.fault.FaultKind.{FaultKind}
use Rattle.asn1_x691.specs.declared.fault.FaultKind.TheVariants.{NotMinimal}
use Rattle.asn1_x691.specs.Fields.{on_octet, length_of, signed_octets}
use Rattle.asn1_x691_writers.specs.FieldSteps.{turn_written, first_written, octet_written}
use Rattle.asn1_x691_writers.proofs.unbounded.put_unconstrained_span.Goals as goal

pub returns : goal.returns
returns c node =
    let aligned = c.args.is_aligned in
    let z = signed_number (bits_of (bits c.args.source.now) c.args.span) in
    let count = (c.args.span.count + 7) / 8 in
    let was = c.args.octets.now in
    let mid = c.put_length-after.new.octets in
    let next = c.put_start-start.new.octets in
    let now = c.put_signed_span.new.octets in
    let new = c.put_signed_span.result in
    let some : 0 < (c.args.span.count + 7) / 8 = omega (arith, c.requires.some) in
    let S : ℕ → ℕ → Encoding FaultKind ℤ = λ count.
    in_case (0 < count) (on_octet aligned node (signed_octets count node)) (count ≡ 0) (anywhere (invalid NotMinimal node)) in
    turn_written aligned (length_of aligned node) (λ count d. d) S count z was mid now c.args.at c.put_length-after.result new
    (c.put_length-after.ensures node)
    (first_written aligned (0 < count) (count ≡ 0) (on_octet aligned node (signed_octets count node)) (anywhere (invalid NotMinimal node)) z
    mid now c.put_length-after.result new some
    (octet_written node (signed_octets count node) z mid next now c.put_length-after.result c.put_start-start.result new aligned
    c.put_start-start.ensures (c.put_signed_span.ensures aligned node)))

use Rattle.std.proofs.Common.{◌≡◌, ◌<◌, ℕ, ℤ, subst}
use Rattle.std.specs.Int.{w128}
use Rattle.std.proofs.lemmas.Int.{to_z-of_z}
use Rattle.asn1_schema.specs.Encodings.{Encoding, anywhere, invalid, in_case}
use Rattle.asn1_x691.specs.declared.fault.FaultKind.{FaultKind}
use Rattle.asn1_x691.specs.declared.fault.FaultKind.TheVariants.{NotMinimal}
use Rattle.asn1_x691.specs.Fields.{on_octet, length_of, signed_octets}
use Rattle.asn1_x691_writers.specs.Written.{IsWritten}
use Rattle.asn1_x691_writers.specs.FieldSteps.{turn_written, first_written, octet_written}
use Rattle.asn1_x691_writers.proofs.unbounded.put_unconstrained.Goals as goal

pub returns : goal.returns
returns c node =
    let aligned = c.args.is_aligned in
    let z = c.args.z in
    let count = c.signed_octets_of-count.result in
    let was = c.args.octets.now in
    let mid = c.put_length-after.new.octets in
    let next = c.put_start-start.new.octets in
    let now = c.put_signed.new.octets in
    let new = c.put_signed.result in
    let S : ℕ → ℕ → Encoding FaultKind ℤ = λ count.
    in_case (0 < count) (on_octet aligned node (signed_octets count node)) (count ≡ 0) (anywhere (invalid NotMinimal node)) in
    turn_written aligned (length_of aligned node) (λ count z. z) S count z was mid now c.args.at c.put_length-after.result new
    (c.put_length-after.ensures node)
    (first_written aligned (0 < count) (count ≡ 0) (on_octet aligned node (signed_octets count node)) (anywhere (invalid NotMinimal node)) z
    mid now c.put_length-after.result new c.signed_octets_of-count.ensures.some
    (octet_written node (signed_octets count node) z mid next now c.put_length-after.result c.put_start-start.result new aligned
    c.put_start-start.ensures
    (subst (λ (x : ℤ). IsWritten aligned (anywhere (signed_octets count node)) x next c.put_start-start.result now new)
    (to_z-of_z w128 z c.ranges.z) (c.put_signed.ensures aligned node))))

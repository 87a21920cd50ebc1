use Rattle.std.proofs.Common.{◌≡◌, ◌<◌, ℕ}
use Rattle.asn1_schema.specs.Encodings.{Encoding, anywhere, invalid, in_case}
use Rattle.asn1_x691.specs.declared.fault.FaultKind.{FaultKind}
use Rattle.asn1_x691.specs.declared.fault.FaultKind.TheVariants.{NotMinimal}
use Rattle.asn1_x691.specs.Fields.{on_octet, length_of, minimal_octets}
use Rattle.asn1_x691_writers.specs.FieldSteps.{turn_written, first_written, octet_written}
use Rattle.asn1_x691_writers.proofs.unbounded.put_semi_constrained.Goals as goal

pub returns : goal.returns
returns c node =
    let aligned = c.args.is_aligned in
    let n = c.args.n in
    let count = c.octets_of-count.result in
    let was = c.args.octets.now in
    let mid = c.put_length-after.new.octets in
    let next = c.put_start-start.new.octets in
    let now = c.put_minimal.new.octets in
    let new = c.put_minimal.result in
    let S : ℕ → ℕ → Encoding FaultKind ℕ = λ count.
    in_case (0 < count) (on_octet aligned node (minimal_octets count node)) (count ≡ 0) (anywhere (invalid NotMinimal node)) in
    turn_written aligned (length_of aligned node) (λ count d. d) S count n was mid now c.args.at c.put_length-after.result new
    (c.put_length-after.ensures node)
    (first_written aligned (0 < count) (count ≡ 0) (on_octet aligned node (minimal_octets count node)) (anywhere (invalid NotMinimal node)) n
    mid now c.put_length-after.result new c.octets_of-count.ensures.some
    (octet_written node (minimal_octets count node) n mid next now c.put_length-after.result c.put_start-start.result new aligned
    c.put_start-start.ensures (c.put_minimal.ensures aligned node)))

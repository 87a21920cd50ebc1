use Rattle.std.proofs.Common.{◌≡◌, length, Err, rules}
use Rattle.asn1_builder.specs.Drafts.{draft_of, expected_type}
use Rattle.asn1_builder.specs.Steps.{are_few, expected_of, put, span_after, string, string_part}
use Rattle.asn1_builder.proofs.DraftLemmas.{refused_few, refuses}
use Rattle.asn1_builder.proofs.builder.Builder.string.Goals as goal

pub returns-in_err-expect : goal.returns-in_err-expect
returns-in_err-expect c =
    let d = draft_of c.args.self.now in
    let e = c.in_err-expect.field-0.0 in
    let is : expected_of c.args.kind (expected_type d) ≡ Err e = search rules in
    let same : c.from_residual.result ≡ Err e = search rules in
    let octets = c.args.octets.now in
    refuses (string c.args.kind c.args.bits octets d) e d c.from_residual.result
    (refused_few (are_few d (length octets)) c.args.kind (expected_type d)
    (put d (string_part c.args.kind (span_after d c.args.bits)) octets) e is) same

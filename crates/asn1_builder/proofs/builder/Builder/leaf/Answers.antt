use Rattle.std.proofs.Common.{◌≡◌, [], Err, rules}
use Rattle.asn1_builder.specs.Drafts.{draft_of, expected_type}
use Rattle.asn1_builder.specs.Steps.{expected_of, leaf, put}
use Rattle.asn1_builder.proofs.DraftLemmas.{refused, refuses}
use Rattle.asn1_builder.proofs.builder.Builder.leaf.Goals as goal

pub returns-in_err-expect : goal.returns-in_err-expect
returns-in_err-expect c =
    let d = draft_of c.args.self.now in
    let e = c.in_err-expect.field-0.0 in
    let is : expected_of c.args.kind (expected_type d) ≡ Err e = search rules in
    let same : c.from_residual.result ≡ Err e = search rules in
    refuses (leaf c.args.kind c.args.part d) e d c.from_residual.result
    (refused c.args.kind (expected_type d) (put d c.args.part []) e is) same

use Rattle.std.proofs.Common.{◌≡◌, length, Err, rules}
use Rattle.std.specs.Str.{chars}
use Rattle.std.proofs.Common.{◌*◌, ◌+◌, ◌^◌, nat_lt, true}
use Rattle.std.proofs.lemmas.Bool.{ltb-true}
use Rattle.asn1_builder.specs.Drafts.{draft_of, expected_type}
use Rattle.asn1_builder.specs.Steps.{are_few, expected_of, octets_of, put, text, text_part}
use Rattle.asn1_builder.proofs.DraftLemmas.{has_room, refused_few, refuses}
use Rattle.asn1_builder.proofs.builder.Builder.characters.Goals as goal

pub returns-in_err-expect : goal.returns-in_err-expect
returns-in_err-expect c =
    let d = draft_of c.args.self.now in
    let e = c.in_err-expect.field-0.0 in
    let is : expected_of c.args.kind (expected_type d) ≡ Err e = search rules in
    let same : c.from_residual.result ≡ Err e = search rules in
    let cs = chars c.args.text.now in
    refuses (text c.args.kind cs d) e d c.from_residual.result
    (refused_few (are_few d (4 * length cs)) c.args.kind (expected_type d)
    (put d (text_part (8 * length d.octets) (length cs)) (octets_of cs)) e is) same

pub put-requires : goal.put-requires
put-requires c =
    let cs = chars c.args.text.now in
    let old = length c.args.self.now.octets.items in
    let count = c.count_of-count.result in
    let yes : nat_lt (old + 4 * count) (2 ^ 61) ≡ true = cc in
    let few = ltb-true (old + 4 * count) (2 ^ 61) yes in
    rw c.as_slice.ensures.value
    (has_room old count (2 ^ 61) cs c.in-Ok.octets.items c.count_of-count.ensures.count c.in-Ok.ensures few)

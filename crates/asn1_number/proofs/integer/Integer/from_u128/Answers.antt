use Rattle.std.proofs.Common.{rules, ◌≡◌, ◌<◌, ◌^◌, pos, ap, ◌∙◌}
use Rattle.std.specs.Int.{to_be_bytes, w128}
use Rattle.asn1_number.specs.Octets.{unsigned}
use Rattle.asn1_number.specs.Laws.WidthLaws.{unsigned-bytes}
use Rattle.asn1_number.proofs.integer.Integer.from_u128.Goals as goal

pub returns-clause-value : goal.returns-clause-value
returns-clause-value c =
    let small : c.args.number < 2 ^ 128 = search rules in
    let same : c.to_be_bytes.result ≡ to_be_bytes w128 c.args.number = c.to_be_bytes.ensures in
    c.in-Ok-from_unsigned_octets.ensures.value ∙ ap pos (ap unsigned same ∙ unsigned-bytes 16 c.args.number small)

pub returns-in-Ok-clause-value : goal.returns-in-Ok-clause-value
returns-in-Ok-clause-value c = search rules

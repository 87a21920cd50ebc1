use Rattle.std.proofs.Common.{arith}
use Rattle.std.proofs.lemmas.Grind.{common_steps}
use Rattle.asn1_characters.specs.Sets.{base_set}
use Rattle.asn1_strings.proofs.TextLemmas.{set_text}
use Rattle.asn1_strings.proofs.restricted_string.RestrictedString.into_string.Goals as goal

pub unwrap-requires : goal.unwrap-requires
unwrap-requires g c =
    c.from_utf8.ensures.succeeds (set_text (base_set g.K.StringKind.NAME) c.args.self c.into_vec.result.items
    g.met.K.AsText.is_ascii c.into_vec.ensures.in_set c.into_vec.ensures.list)

pub returns : goal.returns
returns g c = grind (arith, common_steps)

use Rattle.asn1_characters.specs.Sets.{base_set}
use Rattle.asn1_strings.proofs.TextLemmas.{set_text, ok_from_no_err}
use Rattle.asn1_strings.proofs.restricted_string.RestrictedString.as_str.Goals as goal

pub unwrap-requires : goal.unwrap-requires
unwrap-requires g c =
    let text =
    set_text (base_set g.K.StringKind.NAME) c.args.self.now c.as_slice.result.now g.met.K.AsText.is_ascii
    c.as_slice.ensures.in_set c.as_slice.ensures.list in
    ok_from_no_err c.from_utf8.result (λ e is. (rw is at c.from_utf8.ensures.cases).0 text)

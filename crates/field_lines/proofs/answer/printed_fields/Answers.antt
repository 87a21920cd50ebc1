use Rattle.std.proofs.Common.{◌≡◌, ◌++◌, ℕ, List, Bool, sym, ap, subst, ◌∙◌}
use Rattle.asn1_values.specs.Plain.{plain_fields}
use Rattle.asn1_values.specs.Words.{padded}
use Rattle.field_lines.specs.Output.{printed}
use Rattle.field_lines.specs.Answer.{Hold}
use Rattle.field_lines.proofs.OneLemmas.{one_holding}
use Rattle.field_lines.proofs.answer.printed_fields.Goals as goal

pub returns : goal.returns
returns c =
    let w = c.in-Ok.ensures.written in
    let list : List Bool = w.0 in
    let octets : List ℕ = c.as_bytes.result.now in
    let fields = plain_fields c.args.fields.now in
    let all : c.write_fields.new.buffer ≡ list = w.2 ∙ ap (λ (l : List Bool). l ++ list) c.new-again.ensures in
    let hold : Hold octets list = (c.in_ok-print_fields.ensures.octets, c.as_bytes.ensures.spelled ∙ ap padded all) in (
      (
        list,
        octets,
        w.1,
        hold,
        ap (λ text. record { text = text; status = 0 }) c.in_ok-print_fields.ensures.text,
      ),
      λ other h.
          let again : c.write_fields.new.buffer ≡ h.0 =
          c.in-Ok.ensures.one c.requires h.0 h.2 ∙ ap (λ (l : List Bool). l ++ h.0) c.new-again.ensures in
          let same = one_holding list h.1 octets (subst (λ (l : List Bool). Hold h.1 l) (sym again ∙ all) h.3) hold in
          h.4 ∙ ap (λ (o : List ℕ). record { text = printed fields c.args.left o; status = 0 }) same
          ∙ sym (ap (λ text. record { text = text; status = 0 }) c.in_ok-print_fields.ensures.text),
    )

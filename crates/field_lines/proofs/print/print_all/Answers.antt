use Rattle.std.proofs.Common.{◌++◌, sym, ap, ◌∙◌}
use Rattle.asn1_values.specs.Plain.{plain_field}
use Rattle.field_lines.specs.Output.{line, field_text}
use Rattle.field_lines.proofs.LineLemmas.{field_lines_more}
use Rattle.field_lines.proofs.print.print_all.Goals as goal

pub loop-field-preserved : goal.loop-field-preserved
loop-field-preserved c =
    c.in_ok-print_field.ensures
    ∙ ap (λ l. l ++ line (field_text (plain_field c.field-item.result))) c.loop-field.invariant
    ∙ sym (field_lines_more c.args.fields.now c.loop-field.field-index c.field-item.result c.loop-field-test.true
    c.field-item.is)

use Rattle.std.proofs.Common.{◌≡◌, take, string_bytes}
use Rattle.asn1_values.specs.Plain.{plain_fields}
use Rattle.field_lines.specs.Output.{field_lines}
use Rattle.field_lines.proofs.print.print_all.Given as goal

-- the text is the lines of the fields so far
abbrev pub invariant-loop-field : goal.invariant-loop-field
invariant-loop-field l = string_bytes l.text ≡ field_lines (plain_fields (take l.field-index l.fields))

use Rattle.std.proofs.Common.{take}
use Rattle.asn1_values.specs.Fields.{IsSpelledBy}
use Rattle.asn1_values.specs.Plain.{plain_fields}
use Rattle.asn1_values.specs.Steps.{EndsAt}
use Rattle.asn1_values.proofs.bit_fields.write_at.overwrite_end_if_all_fit.Given as goal

abbrev pub invariant-loop-field : goal.invariant-loop-field
invariant-loop-field l = EndsAt IsSpelledBy l.position (plain_fields (take l.field-index l.fields)) l.end

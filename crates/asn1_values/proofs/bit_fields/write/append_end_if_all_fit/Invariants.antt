use Rattle.std.proofs.Common.{take}
use Rattle.asn1_values.specs.Plain.{plain_fields}
use Rattle.asn1_values.specs.Steps.{TakesBits, EndsAt}
use Rattle.asn1_values.proofs.bit_fields.write.append_end_if_all_fit.Given as goal

abbrev pub invariant-loop-field : goal.invariant-loop-field
invariant-loop-field l = EndsAt TakesBits l.len (plain_fields (take l.field-index l.fields)) l.end

use Rattle.std.proofs.Common.{take}
use Rattle.asn1_values.specs.Plain.{plain_fields}
use Rattle.asn1_values.specs.Fields.{IsSpelledBy}
use Rattle.asn1_values.specs.Steps.{EndsAt}
use Rattle.asn1_values.proofs.bit_fields.write.end_or_misfit.Given as goal

abbrev pub invariant-loop-i : goal.invariant-loop-i
invariant-loop-i l = EndsAt IsSpelledBy l.len (plain_fields (take l.i l.fields)) l.end

use Rattle.std.proofs.Common.{take}
use Rattle.asn1_values.specs.Plain.{plain_fields}
use Rattle.asn1_values.proofs.GatherLemmas.{Gathering}
use Rattle.asn1_values.proofs.bit_fields.write.push_all.Given as goal

-- the fields so far were pushed or gathered, and their turns counted
abbrev pub invariant-loop-field : goal.invariant-loop-field
invariant-loop-field l =
    Gathering (plain_fields (take l.field-index l.fields)) l.initial.appender l.appender l.gathered.word l.gathered.width
    l.initial.turns.count l.turns.count

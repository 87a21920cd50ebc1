use Rattle.asn1_values.proofs.SixteenLemmas.{Pushing}
use Rattle.asn1_values.proofs.bit_fields.identifier.push_each.Given as goal

abbrev pub invariant-loop-octet : goal.invariant-loop-octet
invariant-loop-octet l =
    Pushing l.initial.appender l.appender l.initial.octet-iterator l.octet-iterator l.word l.width l.initial.turns.count
    l.turns.count

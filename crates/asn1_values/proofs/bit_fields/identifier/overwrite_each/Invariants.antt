use Rattle.asn1_values.proofs.OverLemmas.{OctetsOver}
use Rattle.asn1_values.proofs.bit_fields.identifier.overwrite_each.Given as goal

abbrev pub invariant-loop-octet : goal.invariant-loop-octet
invariant-loop-octet l =
    OctetsOver l.initial.octet-iterator l.octet-iterator l.initial.target l.target l.position l.next

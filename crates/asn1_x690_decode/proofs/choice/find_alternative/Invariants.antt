use Rattle.asn1_x690.specs.declared.tables.Identifier.{Identifier}
use Rattle.asn1_x690_fields.specs.Outcomes.{IsIdentifier}
use Rattle.asn1_x690_decode.specs.Alternatives.{AreOthers}
use Rattle.asn1_x690_decode.proofs.choice.find_alternative.Given as goal

abbrev pub invariant-loop-index : goal.invariant-loop-index
invariant-loop-index l = (id : Identifier) → IsIdentifier l.found id → AreOthers l.context id l.fn.rows.from l.index

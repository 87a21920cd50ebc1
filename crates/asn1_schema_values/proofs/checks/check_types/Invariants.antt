use Rattle.asn1_schema_values.specs.Tables.{AreWellFormedBefore}
use Rattle.asn1_schema_values.proofs.checks.check_types.Given as goal

abbrev pub invariant-loop-row : goal.invariant-loop-row
invariant-loop-row l = AreWellFormedBefore l.tables l.row

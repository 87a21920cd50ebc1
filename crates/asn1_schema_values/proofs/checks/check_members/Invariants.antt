use Rattle.asn1_schema_values.specs.Tables.{HaveTypesBefore}
use Rattle.asn1_schema_values.proofs.checks.check_members.Given as goal

abbrev pub invariant-loop-row : goal.invariant-loop-row
invariant-loop-row l = HaveTypesBefore l.tables l.row

use Rattle.std.proofs.Common.{rules}
use Rattle.asn1_c.proofs.identifiers.asn1v_oid_check.Goals as goal

pub returns-clause-done : goal.returns-clause-done
returns-clause-done c = search rules

pub returns-clause-arc_too_large : goal.returns-clause-arc_too_large
returns-clause-arc_too_large c = search rules

pub returns-clause-malformed : goal.returns-clause-malformed
returns-clause-malformed c = search rules

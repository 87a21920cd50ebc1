use Rattle.std.proofs.Common.{rules}
use Rattle.asn1_c.proofs.identifiers.code_of_contents.Goals as goal

pub returns-in-Ok-clause-done : goal.returns-in-Ok-clause-done
returns-in-Ok-clause-done c = search rules

pub returns-in-Ok-clause-malformed : goal.returns-in-Ok-clause-malformed
returns-in-Ok-clause-malformed c = search rules

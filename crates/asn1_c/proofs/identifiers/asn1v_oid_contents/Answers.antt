use Rattle.std.proofs.Common.{rules}
use Rattle.asn1_c.proofs.identifiers.asn1v_oid_contents.Goals as goal

pub returns-in_default-clause-kept : goal.returns-in_default-clause-kept
returns-in_default-clause-kept c = search rules

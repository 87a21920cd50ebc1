use Rattle.std.proofs.Common.{rules}
use Rattle.asn1_oid.proofs.object_identifier.ObjectIdentifierDisplay.fmt.Goals as goal

pub returns-clause-writes : goal.returns-clause-writes
returns-clause-writes c = search rules

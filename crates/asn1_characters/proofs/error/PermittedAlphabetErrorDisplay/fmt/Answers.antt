use Rattle.std.proofs.Common.{rules}
use Rattle.asn1_characters.proofs.error.PermittedAlphabetErrorDisplay.fmt.Goals as goal

pub returns-in-IndexNotFound-clause-writes : goal.returns-in-IndexNotFound-clause-writes
returns-in-IndexNotFound-clause-writes c = search rules

pub returns-in-InvalidData-clause-writes : goal.returns-in-InvalidData-clause-writes
returns-in-InvalidData-clause-writes c = search rules

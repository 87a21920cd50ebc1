use Rattle.std.proofs.Common.{rules}
use Rattle.asn1_strings.proofs.restricted_string.RestrictedStringStaticPermittedAlphabet.reserve.Goals as goal

pub returns-clause-same : goal.returns-clause-same
returns-clause-same c = search rules

pub returns-clause-memory : goal.returns-clause-memory
returns-clause-memory c = search rules

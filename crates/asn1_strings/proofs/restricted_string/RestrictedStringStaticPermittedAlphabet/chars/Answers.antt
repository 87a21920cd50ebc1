use Rattle.std.proofs.Common.{rules}
use Rattle.asn1_strings.proofs.restricted_string.RestrictedStringStaticPermittedAlphabet.chars.Goals as goal

pub returns-clause-list : goal.returns-clause-list
returns-clause-list c = search rules

use Rattle.std.proofs.Common.{rules}
use Rattle.asn1_strings.proofs.restricted_string.RestrictedStringStaticPermittedAlphabet.CHARACTER_SET_RANGES.Goals as goal

pub returns : goal.returns
returns c = search rules

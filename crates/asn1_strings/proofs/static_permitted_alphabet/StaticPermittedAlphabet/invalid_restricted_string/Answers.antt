use Rattle.std.proofs.Common.{rules}
use Rattle.asn1_strings.proofs.static_permitted_alphabet.StaticPermittedAlphabet.invalid_restricted_string.Goals as goal

pub returns : goal.returns
returns c = search rules

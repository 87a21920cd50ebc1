use Rattle.std.proofs.Common.{rules}
use Rattle.asn1_strings.proofs.static_permitted_alphabet.StaticPermittedAlphabet.try_from_octet_string.Goals as goal

pub returns : goal.returns
returns c = search rules

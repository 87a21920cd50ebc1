use Rattle.std.proofs.Common.{rules}
use Rattle.asn1_alphabets.proofs.alphabet.CharacterAlphabet.encode.Goals as goal

pub returns : goal.returns
returns c = search rules

use Rattle.std.proofs.Common.{rules}
use Rattle.asn1_alphabets.proofs.alphabet.CharacterAlphabet.decode.Goals as goal

pub returns-in-None-clause-character : goal.returns-in-None-clause-character
returns-in-None-clause-character c = search rules

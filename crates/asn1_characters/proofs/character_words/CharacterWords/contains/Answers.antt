use Rattle.std.proofs.Common.{rules}
use Rattle.asn1_characters.proofs.character_words.CharacterWords.contains.Goals as goal

pub returns : goal.returns
returns c = search rules

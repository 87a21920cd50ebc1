use Rattle.std.proofs.Common.{◌∙◌}
use Rattle.asn1_characters.proofs.WordLemmas.{bmp_is, has_by_words}
use Rattle.asn1_characters.proofs.character_set.CharacterSetName.contains.Goals as goal

pub returns-in-Bmp : goal.returns-in-Bmp
returns-in-Bmp c = rw c.in-Bmp.is (bmp_is c.args.character)

pub returns-in_default : goal.returns-in_default
returns-in_default c =
    c.contains.ensures ∙ has_by_words c.args.self c.words.result.words c.args.character c.in_default.not-Bmp
    c.words.ensures

use Rattle.std.proofs.Common.{arith}
use Rattle.std.proofs.lemmas.Grind.{common_steps}
use Rattle.asn1_characters.specs.Laws.SetLaws.{no_larger}
use Rattle.asn1_characters.proofs.character_words.CharacterWords.of.Goals as goal

pub with-words-requires : goal.with-words-requires
with-words-requires c =
    let most = no_larger c.args.set.now c.loop-character.character-index 0 (omega arith) in omega arith

pub loop-character-preserved : goal.loop-character-preserved
loop-character-preserved c = grind (arith, common_steps)

use Rattle.asn1_characters.specs.Laws.TableLaws.{few_in_base}
use Rattle.asn1_alphabets.proofs.alphabet.CharacterAlphabet.new.Goals as goal

pub of_set-requires : goal.of_set-requires
of_set-requires g c = few_in_base c.CHARACTER_SET_NAME-name.result

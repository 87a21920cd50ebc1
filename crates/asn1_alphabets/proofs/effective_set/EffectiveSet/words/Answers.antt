use Rattle.std.proofs.Common.{rules, lit≤}
use Rattle.asn1_characters.specs.Sets.{base_set}
use Rattle.asn1_characters.specs.Laws.TableLaws.{largest-base_set, largest_small}
use Rattle.asn1_characters.specs.declared.character_set.CharacterSetName.TheVariants.{Bmp}
use Rattle.asn1_alphabets.proofs.AlphabetLemmas.{some_words}
use Rattle.asn1_alphabets.proofs.effective_set.EffectiveSet.words.Goals as goal

pub returns-in_default-clause-has_words : goal.returns-in_default-clause-has_words
returns-in_default-clause-has_words c =
    rw c.in-Base.is (some_words (base_set c.in-Base.name) c.words.result
    (record { below = largest_small c.in-Base.name c.in_default.not-Bmp; same = c.words.ensures }))

pub returns-in-Bmp-clause-wordless : goal.returns-in-Bmp-clause-wordless
returns-in-Bmp-clause-wordless c = λ none run.
    rw (c.requires, c.in-Base.is, c.in-Bmp.is, largest-base_set Bmp) (lit≤ tt)

pub returns-in-Permitted-2-clause-wordless : goal.returns-in-Permitted-2-clause-wordless
returns-in-Permitted-2-clause-wordless c = search rules

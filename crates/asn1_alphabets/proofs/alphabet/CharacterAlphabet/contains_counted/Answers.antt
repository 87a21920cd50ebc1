use Rattle.std.proofs.Common.{refl, ap, ◌∙◌}
use Rattle.std.specs.List.{range_with_len}
use Rattle.asn1_characters.specs.Sets.{has_character}
use Rattle.asn1_alphabets.specs.AlphabetInMemory.{some_if, set_of}
use Rattle.asn1_alphabets.proofs.AlphabetLemmas.{has_by_words, found_is}
use Rattle.asn1_alphabets.proofs.alphabet.CharacterAlphabet.contains_counted.Goals as goal

pub returns-then-self-clause-value : goal.returns-then-self-clause-value
returns-then-self-clause-value c =
    let known = c.args.self.now.known in
    c.is_some.ensures
    ∙ found_is (range_with_len c.of.result.first c.of.result.count) c.args.character c.place.result
    c.place.ensures.place
    ∙ ap (λ set. has_character set c.args.character) (c.of.ensures ∙ known.layout c.if-self.true)

pub returns-then-self-2-clause-value : goal.returns-then-self-2-clause-value
returns-then-self-2-clause-value c =
    let has_words = c.args.self.now.known.has_words c.args.self.now.words (rw c.if-self-2.true refl) in
    c.contains.ensures ∙ has_by_words (set_of c.args.self.now.name (some_if c.args.self.now.kept c.args.self.now.set))
    c.args.self.now.words c.args.character has_words

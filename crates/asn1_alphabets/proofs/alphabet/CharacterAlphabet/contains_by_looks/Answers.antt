use Rattle.std.proofs.Common.{ap, ◌∙◌}
use Rattle.asn1_characters.specs.Sets.{has_character}
use Rattle.asn1_alphabets.specs.AlphabetInMemory.{set_of}
use Rattle.asn1_alphabets.proofs.AlphabetLemmas.{found_is}
use Rattle.asn1_alphabets.proofs.alphabet.CharacterAlphabet.contains_by_looks.Goals as goal

pub returns-in-Some-clause-value : goal.returns-in-Some-clause-value
returns-in-Some-clause-value c =
    let set = c.in-Some.set.now in
    c.is_some.ensures
    ∙ found_is set c.args.character c.place_by_looks.result c.place_by_looks.ensures.place
    ∙ ap (λ p. has_character (set_of c.args.self.now.name p) c.args.character) c.in-Some.ensures

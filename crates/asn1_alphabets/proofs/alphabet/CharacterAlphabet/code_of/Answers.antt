use Rattle.std.proofs.Common.{◌≡◌, true, refl, ap, sym, ◌∙◌}
use Rattle.std.specs.List.{range_with_len}
use Rattle.asn1_characters.specs.Sets.{has_character}
use Rattle.asn1_alphabets.specs.AlphabetInMemory.{some_if, set_of}
use Rattle.asn1_alphabets.specs.Laws.AlphabetLaws.{stands_in}
use Rattle.asn1_alphabets.proofs.alphabet.CharacterAlphabet.code_of.Goals as goal

pub returns-else-self-2-clause-code : goal.returns-else-self-2-clause-code
returns-else-self-2-clause-code c =
    let alphabet = c.args.self.now in
    let has : has_character (set_of alphabet.name (some_if alphabet.kept alphabet.set)) c.args.character ≡ true =
    sym (ap (λ set. has_character set c.args.character) (c.of.ensures ∙ alphabet.known.layout c.if-self.true))
    ∙ stands_in (range_with_len c.of.result.first c.of.result.count) c.in_ok-place.place c.args.character
    c.in_ok-place.ensures.place in
    rw c.if-self-2.false (has, refl)

use Rattle.asn1_alphabets.specs.AlphabetView.{alphabet_of}
use Rattle.asn1_values.proofs.SpellingLemmas.{character_taken}
use Rattle.asn1_values.proofs.bit_fields.write.len_if_fits.Goals as goal

pub returns-in-Character : goal.returns-in-Character
returns-in-Character c =
    rw (c.in-Character.is, c.width.ensures.value)
    (character_taken (alphabet_of c.in-Character.alphabet) c.in-Character.character)

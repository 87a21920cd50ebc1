-- Laws of the alphabet of a value in memory.
use Rattle.std.proofs.Common.{ℕ, ◌^◌, ◌<◌}
use Rattle.asn1_alphabets.specs.Alphabet.{IsCode}
use Rattle.asn1_alphabets.specs.AlphabetView.{alphabet_of}
use Rattle.asn1_alphabets.specs.Laws.AlphabetLaws.{code_fits}
use Rattle.asn1_alphabets.specs.declared.alphabet.CharacterAlphabet.{CharacterAlphabet}

-- every code of an alphabet fits its width
pub codes_fit : (a : CharacterAlphabet) (c k : ℕ) → IsCode (alphabet_of a) c k →
    k < 2 ^ (alphabet_of a).width
codes_fit a c k code = code_fits (alphabet_of a) c k a.known.room a.known.by_place code

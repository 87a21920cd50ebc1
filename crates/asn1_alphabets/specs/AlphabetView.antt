-- The alphabet of a value in memory.
use Rattle.std.specs.Option.{option_copied}
use Rattle.asn1_alphabets.specs.Alphabet.{Alphabet, origin_of}
use Rattle.asn1_alphabets.specs.AlphabetInMemory.{some_if, set_of}
use Rattle.asn1_alphabets.specs.declared.alphabet.CharacterAlphabet.{CharacterAlphabet}

abbrev pub alphabet_of : CharacterAlphabet → Alphabet
alphabet_of a = record {
  characters = set_of a.name (some_if a.kept a.set);
  width = a.width;
  indexed = a.indexed;
  origin = origin_of a.name (option_copied (some_if a.kept a.set));
}

use Rattle.std.proofs.Common.{rules}
use Rattle.asn1_characters.specs.Laws.TableLaws.{few_in_base}
use Rattle.asn1_strings.proofs.static_permitted_alphabet.StaticPermittedAlphabet.try_from_permitted_alphabet.Goals as goal

pub string_of_bits_in-requires-in-None : goal.string_of_bits_in-requires-in-None
string_of_bits_in-requires-in-None g c = few_in_base c.CHARACTER_SET_NAME-name.result

pub string_of_bits_in-requires : goal.string_of_bits_in-requires
string_of_bits_in-requires g c = search rules

pub returns-in-Some : goal.returns-in-Some
returns-in-Some g c = search rules

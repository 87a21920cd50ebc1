-- The characters of a part, in octets in which it has its bits.
use Rattle.std.specs.Prelude.{ℕ, List}
use Rattle.asn1_bits.specs.Bits.{bits}
use Rattle.asn1_schema.specs.CharactersOfParts.{characters_of}
use Rattle.asn1_x691_writers.specs.declared.characters.PartCharacters.{PartCharacters}

abbrev pub characters_in : PartCharacters → List ℕ
characters_in p = characters_of p.table.now (bits p.source.now) p.text

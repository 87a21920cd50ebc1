-- Words of the crates below, re-exported for definitions and contracts that depend on this crate.
-- Declares nothing.
unfoldable pub use Rattle.asn1_bits.specs.Bits.{bits, digits, overwritten}
pub use Rattle.asn1_bits.specs.Bits.{number, octets_for, padded}
pub use Rattle.asn1_bits.specs.Laws.NumberLaws.{number-digits, same_octets}
pub use Rattle.asn1_bits.specs.Laws.DigitLaws.{length-bits}
unfoldable pub use Rattle.asn1_bits.specs.View.{list_of}
pub use Rattle.asn1_bits.specs.BitStr.{view_of, bits_of}
pub use Rattle.asn1_bits.specs.BitReader.{view_left, bits_left}
pub use Rattle.asn1_bits.specs.Octets.{octets_in}
pub use Rattle.asn1_number.specs.Octets.{IsShortest}
unfoldable pub use Rattle.asn1_number.specs.Shortest.{shortest_octets}
pub use Rattle.asn1_oid.specs.Arcs.{dotted}
unfoldable pub use Rattle.asn1_strings.specs.Sets.{base_set}
pub use Rattle.asn1_alphabets.specs.Alphabet.{Alphabet, counting_set, effective, keeps}
pub use Rattle.asn1_alphabets.specs.AlphabetView.{alphabet_of}
pub use Rattle.asn1_alphabets.specs.Laws.AlphabetLaws.{code_is_one}
pub use Rattle.asn1_characters.specs.declared.character_set.CharacterSetName.{CharacterSetName}
pub use Rattle.asn1_characters.specs.declared.character_set.CharacterSetName.TheVariants.{Bmp, General, Graphic, IA5, Numeric, Printable, Teletex, Visible}

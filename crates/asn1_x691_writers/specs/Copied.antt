-- Characters of a part whose codes are those of an alphabet.
use Rattle.std.specs.Prelude.{◌≡◌, ℕ, ◌+◌, ◌*◌, ◌≤◌, true, false, List, length, drop}
use Rattle.asn1_bits.specs.Bits.{bits}
use Rattle.asn1_schema.specs.declared.part.Characters.{Characters}
use Rattle.asn1_schema.specs.declared.part.Codes.{Codes}
use Rattle.asn1_schema.specs.declared.part.Codes.TheVariants.{Numbers, Indices}
use Rattle.asn1_schema.specs.declared.tables.Range.{Range}
use Rattle.asn1_schema.specs.CharactersOfParts.{numbers_in, characters_of}
use Rattle.asn1_x691_fields.specs.declared.alphabets.Alphabet.{Alphabet}
use Rattle.asn1_x691_fields.specs.Characters.{AreCodes, rows_of, characters_at}

-- codes tell the characters that those of an alphabet tell
abbrev pub HaveCodesOf : Alphabet → List Range → Codes → Type 0
HaveCodesOf a table Numbers = a.are_numbers ≡ true
HaveCodesOf a table (Indices rows) = (a.are_numbers ≡ false) × (rows_of table rows ≡ a.ranges.now)

pub record AreCopied (a : Alphabet) (source : List ℕ) (table : List Range) (text : Characters) : Type 0 where
  pub inside : text.at + a.width * text.count ≤ 8 * length source
  pub codes : AreCodes a (numbers_in a.width text.count (drop text.at (bits source)))
  pub same : characters_of table (bits source) text ≡ characters_at a (bits source) text.at text.count

-- The numbers of a source: some, of one width, from a bit on.
use Rattle.std.specs.Prelude.{ℕ, List, drop}
use Rattle.asn1_bits.specs.Bits.{bits}
use Rattle.asn1_schema.specs.CharactersOfParts.{numbers_in}
use Rattle.asn1_x691_fields.specs.declared.number_sources.NumbersAt.{NumbersAt}

abbrev pub numbers_of : NumbersAt → List ℕ
numbers_of s = numbers_in s.width s.count (drop s.at (bits s.octets.now))

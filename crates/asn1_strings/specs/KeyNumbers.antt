-- The numbers that pieces of bits encode.
use Rattle.std.specs.Prelude.{ℕ, List, map}
use Rattle.asn1_bits.specs.BitStr.{bits_of}
use Rattle.asn1_bits.specs.Bits.{number}
use Rattle.asn1_strings.specs.Pieces.{pieces}
use Rattle.asn1_strings.specs.declared.pieces.BitPieces.{BitPieces}

-- the number of each piece
abbrev pub numbers_of : BitPieces → List ℕ
numbers_of keys = map number (pieces keys.width (bits_of keys.bits))

-- What a reader has left: a view, and its list of bits.
use Rattle.std.specs.Prelude.{Bool, List}
use Rattle.asn1_bits.specs.declared.bit_reader.BitReader.{BitReader}
use Rattle.asn1_bits.specs.BitStr.{view_of}
use Rattle.asn1_bits.specs.View.{View, list_of}

abbrev pub view_left : BitReader → View
view_left r = view_of r.view

abbrev pub bits_left : BitReader → List Bool
bits_left r = list_of (view_left r)

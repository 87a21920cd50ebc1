-- What a `BitStr` shows: a view, and its list of bits.
use Rattle.std.specs.Prelude.{◌+◌, ◌*◌, Bool, List}
use Rattle.asn1_bits.specs.declared.bit_str.BitStr.{BitStr}
use Rattle.asn1_bits.specs.View.{View, list_of}

abbrev pub view_of : BitStr → View
view_of b = record { storage = b.storage.now; first = 8 * b.octet + b.shift; len = b.len }

abbrev pub bits_of : BitStr → List Bool
bits_of b = list_of (view_of b)

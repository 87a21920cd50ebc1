-- The order of encodings (X.690 11.6, X.691 22.1).
use Rattle.std.specs.Prelude.{◌*◌, ◌^◌, ◌<◌, Bool, List, length}
use Rattle.asn1_bits.specs.Bits.{number}

-- one list is before another: with zeros after it, to as many bits, it is the lesser number
abbrev pub IsBefore : List Bool → List Bool → Type 0
IsBefore list other = number list * 2 ^ length other < number other * 2 ^ length list

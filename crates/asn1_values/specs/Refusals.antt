-- What an error of reading or writing says.
use Rattle.std.specs.Prelude.{ℕ, ◌+◌, ◌^◌, ◌<◌, ◌≤◌, ◌⊎◌, Bool, List, length}
use Rattle.asn1_bits.specs.Bits.{octets_for}
use Rattle.asn1_values.specs.declared.bit_fields.error.ReadError.{ReadError}
use Rattle.asn1_values.specs.declared.bit_fields.error.ReadError.TheVariants as reading
use Rattle.asn1_values.specs.declared.bit_fields.error.WriteError.{WriteError}
use Rattle.asn1_values.specs.declared.bit_fields.error.WriteError.TheVariants as writing
use Rattle.asn1_values.specs.Fields.{Field, Shape, AreSpelledBy}
use Rattle.asn1_values.specs.Wrong.{NumberWidth, NotInteger, Short, NoCharacter, NoLength, NotIdentifier, ArcOver, WidthOver, PastWidth, NotInAlphabet, PastLength, TooFewArcs, CanBegin, IsFirstFault, IsFirstMisfit}

-- the error of reading fields of these shapes names the first invalid field, with its reason; if none
-- is invalid, it is `Memory`
abbrev pub IsReadRefusal : List Bool → List Shape → ReadError → Type 0
IsReadRefusal list shapes (reading.NumberWidth field width) = IsFirstFault list shapes field (NumberWidth width)
IsReadRefusal list shapes (reading.Integer field) = IsFirstFault list shapes field NotInteger
IsReadRefusal list shapes (reading.Short field bits) = IsFirstFault list shapes field (Short bits)
IsReadRefusal list shapes (reading.Character field code) = IsFirstFault list shapes field (NoCharacter code)
IsReadRefusal list shapes (reading.Length field octet) = IsFirstFault list shapes field (NoLength octet)
IsReadRefusal list shapes (reading.Identifier field) = IsFirstFault list shapes field NotIdentifier
IsReadRefusal list shapes (reading.Arc field) = IsFirstFault list shapes field ArcOver
IsReadRefusal list shapes reading.Memory = CanBegin list shapes

-- the error of writing these fields after n bits names the first that doesn't fit, with its reason;
-- if all fit, the new length; and it is `Memory` only if the new length fits and an octet is added
abbrev pub IsWriteRefusal : ℕ → List Field → WriteError → Type 0
IsWriteRefusal n fields (writing.NumberWidth field width) = IsFirstMisfit fields field (WidthOver width)
IsWriteRefusal n fields (writing.Number field) = IsFirstMisfit fields field PastWidth
IsWriteRefusal n fields (writing.Character field character) = IsFirstMisfit fields field (NotInAlphabet character)
IsWriteRefusal n fields (writing.IntegerLength field) = IsFirstMisfit fields field PastLength
IsWriteRefusal n fields (writing.ArcCount field) = IsFirstMisfit fields field TooFewArcs
IsWriteRefusal n fields writing.TooLong =
    (list : List Bool) × AreSpelledBy fields list × (2 ^ 64 ≤ n + length list)
IsWriteRefusal n fields writing.Memory =
    (list : List Bool) × AreSpelledBy fields list × (n + length list < 2 ^ 64)
    × (octets_for n < octets_for (n + length list))

-- an index after n bits, or one that usize can't count
abbrev pub IsPast : ℕ → ℕ → Type 0
IsPast n place = (n < place) ⊎ (2 ^ 64 ≤ place)

-- the error of writing these fields over n bits, from an index on, names the first that doesn't fit, with
-- its reason; if all fit, the index that they end at; and it is never `Memory`
abbrev pub IsWriteAtRefusal : ℕ → ℕ → List Field → WriteError → Type 0
IsWriteAtRefusal n place fields (writing.NumberWidth field width) = IsFirstMisfit fields field (WidthOver width)
IsWriteAtRefusal n place fields (writing.Number field) = IsFirstMisfit fields field PastWidth
IsWriteAtRefusal n place fields (writing.Character field character) =
    IsFirstMisfit fields field (NotInAlphabet character)
IsWriteAtRefusal n place fields (writing.IntegerLength field) = IsFirstMisfit fields field PastLength
IsWriteAtRefusal n place fields (writing.ArcCount field) = IsFirstMisfit fields field TooFewArcs
IsWriteAtRefusal n place fields writing.TooLong =
    (list : List Bool) × AreSpelledBy fields list × IsPast n (place + length list)
IsWriteAtRefusal n place fields writing.Memory = ⊥

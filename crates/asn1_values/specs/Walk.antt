-- A list of bits taken apart field by field, as the code does it; it stops at the field that cannot
-- be read. No public contract cites this.
use Rattle.std.specs.Prelude.{ℕ, zero, suc, ◌-◌, ◌*◌, ◌==◌, ◌||◌, ◌&&◌, Bool, List, [], ◌∷◌, length, take, drop, slice_get, Option, Some, None, Result, Ok, Err, nat_lt, if◌then◌else◌}
use Rattle.asn1_bits.specs.Bits.{number}
use Rattle.asn1_number.specs.Octets.{signed}
use Rattle.asn1_oid.specs.declared.contents.ContentsError.{ContentsError}
use Rattle.asn1_oid.specs.declared.contents.ContentsError.TheVariants.{ArcTooLarge}
use Rattle.asn1_oid.specs.Reading.{contents_reading}
use Rattle.asn1_strings.specs.Sets.{has_character}
use Rattle.asn1_alphabets.specs.Alphabet.{Alphabet}
use Rattle.asn1_values.specs.Fields.{Field, Shape, Number, Octets, Bits, Integer, Character, CountedInteger, Identifier, OfNumber, OfOctets, OfBits, OfInteger, OfCharacter, OfCountedInteger, OfIdentifier}
use Rattle.asn1_values.specs.Wrong.{Fault, NumberWidth, NotInteger, Short, NoCharacter, NoLength, NotIdentifier, ArcOver}

-- the octets whose bits these are
abbrev pub octets_of : ℕ → List Bool → List ℕ
octets_of zero list = []
octets_of (suc n) list = number (take 8 list) ∷ octets_of n (drop 8 list)

-- what some bits hold, and the bits after them
abbrev pub with_rest : List Bool → Result Field Fault → Result (Field × List Bool) Fault
with_rest rest (Ok field) = Ok (field, rest)
with_rest rest (Err fault) = Err fault

-- what the first n bits hold, and the bits after them
unfoldable pub cut_at : ℕ → (List Bool → Result Field Fault) → List Bool → Result (Field × List Bool) Fault
cut_at n content list =
    if nat_lt (length list) n then Err (Short (n - length list)) else with_rest (drop n list) (content (take n list))

abbrev pub number_content : ℕ → List Bool → Result Field Fault
number_content width front = Ok (Number (number front) width)

abbrev pub octets_content : ℕ → List Bool → Result Field Fault
octets_content count front = Ok (Octets (octets_of count front))

abbrev pub bits_content : List Bool → Result Field Fault
bits_content front = Ok (Bits front)

-- the first nine bits are all alike
abbrev pub nine_alike : List Bool → Bool
nine_alike front = number (take 9 front) == 0 || number (take 9 front) == 511

abbrev pub integer_content : ℕ → List Bool → Result Field Fault
integer_content count front =
    if nat_lt 1 count && nine_alike front then Err NotInteger else Ok (Integer (signed (octets_of count front)))

-- an integer of `count` octets
unfoldable pub integer_at : ℕ → List Bool → Result (Field × List Bool) Fault
integer_at count list = if count == 0 then Err NotInteger else cut_at (8 * count) (integer_content count) list

-- the same field, counted
abbrev pub as_counted : Field → Field
as_counted (Integer n) = CountedInteger n
as_counted field = field

abbrev pub counted : Result (Field × List Bool) Fault → Result (Field × List Bool) Fault
counted (Ok x) = Ok (as_counted x.0, x.1)
counted (Err fault) = Err fault

-- a counted integer, after the octet that says of how many octets
unfoldable pub counted_at : ℕ → List Bool → Result (Field × List Bool) Fault
counted_at k left = if k == 0 || nat_lt 127 k then Err (NoLength k) else counted (integer_at k left)

-- the identifier of which octets are the contents
abbrev pub identifier_or_fault : Result (List ℕ) ContentsError → Result Field Fault
identifier_or_fault (Ok arcs) = Ok (Identifier arcs)
identifier_or_fault (Err ArcTooLarge) = Err ArcOver
identifier_or_fault (Err e) = Err NotIdentifier

abbrev pub identifier_content : ℕ → List Bool → Result Field Fault
identifier_content count front = identifier_or_fault (contents_reading (octets_of count front))

-- the character whose code a number is
abbrev pub character_of : Alphabet → ℕ → Option ℕ
character_of alphabet k =
    if alphabet.indexed
    then slice_get alphabet.characters k
    else (if has_character alphabet.characters k then Some k else None)

abbrev pub character_or_none : Alphabet → ℕ → Option ℕ → Result Field Fault
character_or_none alphabet k (Some c) = Ok (Character alphabet c)
character_or_none alphabet k None = Err (NoCharacter k)

abbrev pub character_content : Alphabet → List Bool → Result Field Fault
character_content alphabet front = character_or_none alphabet (number front) (character_of alphabet (number front))

-- a field of the shape, and the bits after it
unfoldable pub field_at : Shape → List Bool → Result (Field × List Bool) Fault
field_at (OfNumber width) list =
    if nat_lt 128 width then Err (NumberWidth width) else cut_at width (number_content width) list
field_at (OfOctets count) list = cut_at (8 * count) (octets_content count) list
field_at (OfBits len) list = cut_at len bits_content list
field_at (OfInteger count) list = integer_at count list
field_at (OfCharacter alphabet) list = cut_at alphabet.width (character_content alphabet) list
field_at OfCountedInteger list =
    if nat_lt (length list) 8 then Err (Short (8 - length list)) else counted_at (number (take 8 list)) (drop 8 list)
field_at (OfIdentifier count) list =
    if count == 0 then Err NotIdentifier else cut_at (8 * count) (identifier_content count) list

-- a field before others, whose faults are then one index further on
abbrev pub in_front : Field → Result (List Field × List Bool) (ℕ × Fault) → Result (List Field × List Bool) (ℕ × Fault)
in_front field (Ok x) = Ok (field ∷ x.0, x.1)
in_front field (Err e) = Err (suc e.0, e.1)

-- the first field, and the others, read from the bits that it leaves; its fault is that of index 0
abbrev pub first_and : (List Bool → Result (List Field × List Bool) (ℕ × Fault)) → Result (Field × List Bool) Fault
    → Result (List Field × List Bool) (ℕ × Fault)
first_and others (Ok x) = in_front x.0 (others x.1)
first_and others (Err fault) = Err (0, fault)

-- fields of the shapes, one after another, and the bits after them
unfoldable pub fields_at : List Shape → List Bool → Result (List Field × List Bool) (ℕ × Fault)
fields_at [] list = Ok ([], list)
fields_at (shape ∷ shapes) list = first_and (fields_at shapes) (field_at shape list)

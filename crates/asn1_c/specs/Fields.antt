-- Fields as C names them: a shape by numbers, and a field by where its bits lie and its number.
use Rattle.std.specs.Prelude.{◌≡◌, ◌+◌, ◌*◌, ◌^◌, ◌≤◌, ◌==◌, ◌<◌, ◌⊎◌, ℕ, ℤ, Bool, List, [], ◌∷◌, Option, Some, None, length, take, drop, slice_get, if◌then◌else◌}
use Rattle.std.specs.Option.{option_map}
use Rattle.std.specs.Int.{cast_signed, w128}
use Rattle.asn1_bits.specs.Bits.{bits}
use Rattle.asn1_alphabets.specs.Alphabet.{IsCode}
use Rattle.asn1_values.specs.Fields as plain
use Rattle.asn1_values.specs.Fields.{IsOfShape, IsSpelledBy}
use Rattle.asn1_values.specs.Wrong.{Fault, NumberWidth, NotInteger, Short, NoCharacter, NoLength, NotIdentifier, ArcOver, IsReason}
use Rattle.asn1_c.specs.declared.alphabets.Alphabet.{Alphabet}
use Rattle.asn1_c.specs.declared.fields.Shape.{Shape}
use Rattle.asn1_c.specs.declared.fields.Field.{Field}
use Rattle.asn1_c.specs.declared.fields.Refusal.{Refusal}
use Rattle.asn1_c.specs.Sets.{alphabet_at}

-- the shape of C's numbers; that of a character has the index of its alphabet
abbrev pub shape_named : List Alphabet → Shape → Option plain.Shape
shape_named alphabets s =
    if s.kind == 0 then Some (plain.OfNumber s.count)
    else (if s.kind == 1 then Some (plain.OfOctets s.count)
    else (if s.kind == 2 then Some (plain.OfBits s.count)
    else (if s.kind == 3 then Some (plain.OfInteger s.count)
    else (if s.kind == 4 then Some plain.OfCountedInteger
    else (if s.kind == 5 then option_map (λ a. plain.OfCharacter a) (alphabet_at alphabets s.count)
    else (if s.kind == 6 then Some (plain.OfIdentifier s.count)
    else None))))))

-- the number of two words
abbrev pub number_of_words : ℕ → ℕ → ℕ
number_of_words high low = high * 2 ^ 64 + low

-- the number of two words in two's complement
abbrev pub signed_of_words : ℕ → ℕ → ℤ
signed_of_words high low = cast_signed w128 (number_of_words high low)

-- the first bit after a field
abbrev pub end_of : Field → ℕ
end_of f = f.first + f.length

-- no number is returned
abbrev pub TellsNone : Field → Type 0
TellsNone f = (f.high ≡ 0) × (f.low ≡ 0)

-- the number of up to sixteen octets, which the field has with some bits before, is returned
abbrev pub TellsInteger : ℕ → ℤ → Field → Type 0
TellsInteger lead n f =
    (f.length ≤ lead + 128 → signed_of_words f.high f.low ≡ n) × (lead + 128 < f.length → TellsNone f)

-- a number is returned by value, an integer where it has at most sixteen octets, a character with its
-- code; of every field it is returned where its bits are
abbrev pub Tells : plain.Field → Field → Type 0
Tells (plain.Number value width) f = number_of_words f.high f.low ≡ value
Tells (plain.Integer n) f = TellsInteger 0 n f
Tells (plain.CountedInteger n) f = TellsInteger 8 n f
Tells (plain.Character alphabet c) f = (f.low ≡ c) × IsCode alphabet c f.high
Tells field f = TellsNone f

-- bits of the octets, from an offset on, encode a field of the shape, and C receives it
pub record IsSpelledAt (octets : List ℕ) (from : ℕ) (shape : plain.Shape) (f : Field) : Type 0 where
  pub field : plain.Field
  pub of_shape : IsOfShape field shape
  pub first : f.first ≡ from
  pub within : end_of f ≤ 8 * length octets
  pub spelled : IsSpelledBy field (take f.length (drop from (bits octets)))
  pub told : Tells field f

abbrev pub IsReadAt : List ℕ → List Alphabet → ℕ → Shape → Field → Type 0
IsReadAt octets alphabets from s f =
    (shape : plain.Shape) × (shape_named alphabets s ≡ Some shape) × IsSpelledAt octets from shape f

-- fields of the shapes are read one after another, from an offset up to another
abbrev pub AreReadAt : List ℕ → List Alphabet → ℕ → List Shape → List Field → ℕ → Type 0
AreReadAt octets alphabets from [] [] to = from ≡ to
AreReadAt octets alphabets from (s ∷ ss) (f ∷ fs) to =
    IsReadAt octets alphabets from s f × AreReadAt octets alphabets (end_of f) ss fs to
AreReadAt octets alphabets from ss fs to = ⊥

-- the error has the code, and tells the number
abbrev pub Says : Refusal → ℕ → ℕ → Type 0
Says r code n = (r.code ≡ code) × (number_of_words r.high r.low ≡ n)

-- the error's code is that of the fault, and its number that which the fault has
abbrev pub Names : Fault → Refusal → Type 0
Names (NumberWidth width) r = Says r 2 width
Names (Short n) r = Says r 15 n
Names NotInteger r = Says r 19 0
Names (NoLength octet) r = Says r 20 octet
Names (NoCharacter code) r = Says r 14 code
Names NotIdentifier r = Says r 6 0
Names ArcOver r = Says r 7 0

-- the error names the reason why no field of the shape begins what is left
pub record NamesReason (shape : plain.Shape) (left : List Bool) (r : Refusal) : Type 0 where
  pub fault : Fault
  pub names : Names fault r
  pub reason : IsReason shape left fault

-- the numbers are those of no shape, or the shape has its reason
abbrev pub IsRefusal : List Alphabet → Shape → List Bool → Refusal → Type 0
IsRefusal alphabets s left r =
    (Says r 21 0 × (shape_named alphabets s ≡ None))
    ⊎ ((shape : plain.Shape) × (shape_named alphabets s ≡ Some shape) × NamesReason shape left r)

-- the fields before the rejected one are read, and at their end no field of its shape begins
pub record IsRefusedAt (octets : List ℕ) (alphabets : List Alphabet) (from : ℕ) (ss : List Shape) (fs : List Field)
    (r : Refusal) : Type 0 where
  pub at : ℕ
  pub before : AreReadAt octets alphabets from (take r.field ss) (take r.field fs) at
  pub within : r.field < length ss
  pub reason : (s : Shape) → slice_get ss r.field ≡ Some s → IsRefusal alphabets s (drop at (bits octets)) r

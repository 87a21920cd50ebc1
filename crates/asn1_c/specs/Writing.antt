-- Fields that C names, as they are written.
use Rattle.std.specs.Prelude.{◌≡◌, ◌≢◌, ◌+◌, ◌*◌, ◌^◌, ◌<◌, ◌≤◌, ◌⊎◌, ℕ, Bool, true, false, nat_le, List, [], ◌∷◌, ◌++◌, Some, None, length, take, drop, slice_get}
use Rattle.asn1_bits.specs.Bits.{bits, digits}
use Rattle.asn1_number.specs.Octets.{IsShortest}
use Rattle.asn1_values.specs.Fields as plain
use Rattle.asn1_values.specs.Fields.{IsOfShape, IsSpelledBy}
use Rattle.asn1_values.specs.Wrong.{Misfit, WidthOver, PastWidth, NotInAlphabet, PastLength, TooFewArcs, IsMisfit}
use Rattle.asn1_c.specs.declared.alphabets.Alphabet.{Alphabet}
use Rattle.asn1_c.specs.declared.fields.Shape.{Shape}
use Rattle.asn1_c.specs.declared.fields.Field.{Field}
use Rattle.asn1_c.specs.declared.fields.Refusal.{Refusal}
use Rattle.asn1_c.specs.declared.plans.Plan.{Plan}
use Rattle.asn1_c.specs.Fields.{Says, IsSpelledAt, NamesReason, shape_named, number_of_words, signed_of_words, end_of}

-- Whether a field of the shape is written by its number: a number and a character always, an
-- integer where its length says no more than sixteen octets. Else the source has its bits.
abbrev pub by_number : plain.Shape → Field → Bool
by_number (plain.OfNumber width) f = true
by_number (plain.OfInteger count) f = nat_le f.length 128
by_number plain.OfCountedInteger f = nat_le f.length 136
by_number (plain.OfCharacter alphabet) f = true
by_number shape f = false

-- the number is that of the field
abbrev pub IsNumberOf : Field → plain.Field → Type 0
IsNumberOf f (plain.Number value width) = number_of_words f.high f.low ≡ value
IsNumberOf f (plain.Integer n) = signed_of_words f.high f.low ≡ n
IsNumberOf f (plain.CountedInteger n) = signed_of_words f.high f.low ≡ n
IsNumberOf f (plain.Character alphabet c) = (f.low ≡ c) × (c < 2 ^ 32)
IsNumberOf f field = ⊥

-- the bits are those that lie in the source where the field says
abbrev pub LieIn : List ℕ → Field → List Bool → Type 0
LieIn source f list = (end_of f ≤ 8 * length source) × (list ≡ take f.length (drop f.first (bits source)))

-- the bits encode a field of the shape, which C names by its number or by its index in the source
pub record IsNamedAs (source : List ℕ) (shape : plain.Shape) (f : Field) (list : List Bool) : Type 0 where
  pub field : plain.Field
  pub of_shape : IsOfShape field shape
  pub spelled : IsSpelledBy field list
  pub numbered : by_number shape f ≡ true → IsNumberOf f field
  pub lies : by_number shape f ≡ false → LieIn source f list

abbrev pub IsNamed : List ℕ → List Alphabet → Shape → Field → List Bool → Type 0
IsNamed source alphabets s f list =
    (shape : plain.Shape) × (shape_named alphabets s ≡ Some shape) × IsNamedAs source shape f list

-- the bits are the concatenation of the fields' encodings
abbrev pub AreNamed : List ℕ → List Alphabet → List Shape → List Field → List Bool → Type 0
AreNamed source alphabets [] [] list = list ≡ []
AreNamed source alphabets (s ∷ ss) (f ∷ fs) list =
    (front : List Bool) × (rest : List Bool) × IsNamed source alphabets s f front
    × AreNamed source alphabets ss fs rest × (list ≡ front ++ rest)
AreNamed source alphabets ss fs list = ⊥

-- ---- errors

-- the error's code is that of the misfit, and its number that which the misfit has
abbrev pub SaysMisfit : Misfit → Refusal → Type 0
SaysMisfit (WidthOver width) r = Says r 2 width
SaysMisfit PastWidth r = Says r 5 0
SaysMisfit (NotInAlphabet c) r = Says r 12 c
SaysMisfit PastLength r = ⊥
SaysMisfit TooFewArcs r = ⊥

-- the error names the reason why the field has no encoding
pub record NamesMisfit (field : plain.Field) (r : Refusal) : Type 0 where
  pub misfit : Misfit
  pub says : SaysMisfit misfit r
  pub reason : IsMisfit field misfit

-- the bits of the source are not as many as are needed, or lie elsewhere
abbrev pub IsMisplaced : List ℕ → ℕ → Field → Refusal → Type 0
IsMisplaced source need f r =
    (Says r 17 f.length × (f.length ≢ need)) ⊎ (Says r 1 0 × (f.length ≡ need) × (8 * length source < end_of f))

-- or they are as many, and there is a reason why no field of the shape begins there
abbrev pub IsMisread : List ℕ → plain.Shape → ℕ → Field → Refusal → Type 0
IsMisread source shape need f r =
    IsMisplaced source need f r
    ⊎ ((f.length ≡ need) × (end_of f ≤ 8 * length source) × NamesReason shape (drop f.first (bits source)) r)

-- the shortest octets of the field's number are not `count`
abbrev pub IsMiscounted : ℕ → Field → Refusal → Type 0
IsMiscounted count f r =
    (octets : List ℕ) × IsShortest (signed_of_words f.high f.low) octets × Says r 17 (length octets)
    × (length octets ≢ count)

-- the source ends before; or no counted integer begins there; or one with another length
abbrev pub IsMiscountedThere : List ℕ → Field → Refusal → Type 0
IsMiscountedThere source f r =
    (Says r 1 0 × (8 * length source < end_of f))
    ⊎ (((end_of f ≤ 8 * length source) × NamesReason plain.OfCountedInteger (drop f.first (bits source)) r)
    ⊎ (Says r 17 f.length × ((g : Field) × IsSpelledAt source f.first plain.OfCountedInteger g × (g.length ≢ f.length))))

-- why no bits encode the field; the first reason that applies
abbrev pub IsWrong : List ℕ → plain.Shape → Field → Refusal → Type 0
IsWrong source (plain.OfNumber width) f r = NamesMisfit (plain.Number (number_of_words f.high f.low) width) r
IsWrong source (plain.OfOctets count) f r = IsMisplaced source (8 * count) f r
IsWrong source (plain.OfBits len) f r = IsMisplaced source len f r
IsWrong source (plain.OfInteger count) f r =
    ((f.length ≤ 128) × IsMiscounted count f r)
    ⊎ ((128 < f.length) × IsMisread source (plain.OfInteger count) (8 * count) f r)
IsWrong source (plain.OfCharacter alphabet) f r =
    (Says r 5 0 × (2 ^ 32 ≤ f.low)) ⊎ NamesMisfit (plain.Character alphabet f.low) r
IsWrong source plain.OfCountedInteger f r = (136 < f.length) × IsMiscountedThere source f r
IsWrong source (plain.OfIdentifier count) f r = IsMisread source (plain.OfIdentifier count) (8 * count) f r

-- the numbers are those of no shape, or the field is invalid
abbrev pub IsUnnamed : List ℕ → List Alphabet → Shape → Field → Refusal → Type 0
IsUnnamed source alphabets s f r =
    (Says r 21 0 × (shape_named alphabets s ≡ None))
    ⊎ ((shape : plain.Shape) × (shape_named alphabets s ≡ Some shape) × IsWrong source shape f r)

-- bits encode each field before the rejected one, and for that one there is the reason
pub record IsUnnamedAt (source : List ℕ) (alphabets : List Alphabet) (ss : List Shape) (fs : List Field) (r : Refusal)
    : Type 0 where
  pub list : List Bool
  pub before : AreNamed source alphabets (take r.field ss) (take r.field fs) list
  pub within : r.field < length ss
  pub reason : (s : Shape) (f : Field) → slice_get ss r.field ≡ Some s → slice_get fs r.field ≡ Some f
      → IsUnnamed source alphabets s f r

-- ---- how the steps of the code are stated. No public contract cites these.

-- what a plan writes: an octet, digits of a number, and bits of the source, of each maybe none
abbrev pub planned : List ℕ → Plan → List Bool
planned source p =
    digits p.octet p.lead ++ (digits p.number p.width ++ take p.length (drop p.first (bits source)))

-- the plan can be carried out
pub record IsSound (source : List ℕ) (p : Plan) : Type 0 where
  pub lead : p.lead ≤ 8
  pub width : p.width ≤ 128
  pub within : p.first + p.length ≤ 8 * length source
  pub few : p.lead + p.width + p.length < 2 ^ 64

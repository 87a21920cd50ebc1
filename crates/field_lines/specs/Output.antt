-- The lines that are printed.
use Rattle.std.specs.Prelude.{ℕ, Bool, List, [], ◌∷◌, ◌++◌, map, if◌then◌else◌, codes}
use Rattle.std.specs.List.{flat_map}
use Rattle.std.specs.Fmt.{decimal}
use Rattle.asn1_values.specs.declared.bit_fields.error.ReadError.{ReadError}
use Rattle.asn1_values.specs.declared.bit_fields.error.ReadError.TheVariants as reading
use Rattle.asn1_values.specs.Fields.{Field, Number, Octets, Bits, Integer, Character, CountedInteger, Identifier}
use Rattle.asn1_values.specs.Words.{shortest_octets, dotted}
use Rattle.hex.specs.Hex.{encode_lower}

-- the text and the LF that ends it
abbrev pub line : List ℕ → List ℕ
line text = text ++ 10 ∷ []

-- the text, or `-` where it is empty
abbrev pub or_dash : List ℕ → List ℕ
or_dash [] = codes "-"
or_dash (c ∷ cs) = c ∷ cs

-- a digit for each bit
abbrev pub digits_of_bits : List Bool → List ℕ
digits_of_bits list = map (λ bit. if bit then 49 else 48) list

-- octets in lower-case hexadecimal
abbrev pub octets_text : List ℕ → List ℕ
octets_text octets = or_dash (encode_lower octets)

abbrev pub field_text : Field → List ℕ
field_text (Number value width) = codes "n " ++ decimal value
field_text (Octets octets) = codes "o " ++ octets_text octets
field_text (Bits list) = codes "b " ++ or_dash (digits_of_bits list)
field_text (Integer n) = codes "i " ++ octets_text (shortest_octets n)
field_text (Character alphabet c) = codes "a " ++ decimal c
field_text (CountedInteger n) = codes "c " ++ octets_text (shortest_octets n)
field_text (Identifier arcs) = codes "d " ++ dotted arcs

-- a line for each field
abbrev pub field_lines : List Field → List ℕ
field_lines fields = flat_map (λ field. line (field_text field)) fields

-- a line for each field, one for how many bits are left, and one for the octets of the fields
-- written again
abbrev pub printed : List Field → ℕ → List ℕ → List ℕ
printed fields left again =
    field_lines fields ++ line (codes "rest " ++ decimal left) ++ line (codes "again " ++ octets_text again)

-- at which field reading stopped, and why
abbrev pub error_text : ReadError → List ℕ
error_text (reading.NumberWidth field width) =
    codes "field " ++ decimal field ++ codes ": width " ++ decimal width ++ codes " is over 128"
error_text (reading.Integer field) = codes "field " ++ decimal field ++ codes ": not a shortest integer"
error_text (reading.Short field n) = codes "field " ++ decimal field ++ codes ": " ++ decimal n ++ codes " bits short"
error_text (reading.Character field code) =
    codes "field " ++ decimal field ++ codes ": code " ++ decimal code ++ codes " is no character"
error_text (reading.Length field octet) =
    codes "field " ++ decimal field ++ codes ": length octet " ++ decimal octet ++ codes " is not 1 to 127"
error_text (reading.Identifier field) =
    codes "field " ++ decimal field ++ codes ": not the contents of an identifier"
error_text (reading.Arc field) = codes "field " ++ decimal field ++ codes ": an arc is past 32 bits"
error_text reading.Memory = codes "out of memory"

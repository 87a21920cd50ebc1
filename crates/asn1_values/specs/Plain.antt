-- What the relations see of the program's values, and where fields that were read lie.
use Rattle.std.specs.Prelude.{◌≡◌, ◌↔◌, ◌+◌, ◌%◌, length, ⊤, ℕ, List, Bool, Some, map, take, slice_get}
use Rattle.asn1_bits.specs.BitStr.{view_of, bits_of}
use Rattle.asn1_bits.specs.Octets.{octets_in, IsBorrowed}
use Rattle.asn1_bits.specs.View.{View}
use Rattle.asn1_alphabets.specs.AlphabetView.{alphabet_of}
use Rattle.asn1_values.specs.declared.bit_fields.field.Field.{Field}
use Rattle.asn1_values.specs.declared.bit_fields.field.Field.TheVariants as fields
use Rattle.asn1_values.specs.declared.bit_fields.shape.Shape.{Shape}
use Rattle.asn1_values.specs.declared.bit_fields.shape.Shape.TheVariants as shapes
use Rattle.asn1_values.specs.Fields as plain
use Rattle.asn1_values.specs.Fields.{AreSpelledBy}

abbrev pub plain_field : Field → plain.Field
plain_field (fields.Number value width) = plain.Number value width
plain_field (fields.Octets octets) = plain.Octets (octets_in octets)
plain_field (fields.Bits view) = plain.Bits (bits_of view)
plain_field (fields.Integer n) = plain.Integer n
plain_field (fields.Character c alphabet) = plain.Character (alphabet_of alphabet) c
plain_field (fields.CountedInteger n) = plain.CountedInteger n
plain_field (fields.Oid arcs) = plain.Identifier arcs

abbrev pub plain_fields : List Field → List plain.Field
plain_fields fs = map plain_field fs

abbrev pub plain_shape : Shape → plain.Shape
plain_shape (shapes.Number width) = plain.OfNumber width
plain_shape (shapes.Octets count) = plain.OfOctets count
plain_shape (shapes.Bits len) = plain.OfBits len
plain_shape (shapes.Integer count) = plain.OfInteger count
plain_shape (shapes.Character alphabet) = plain.OfCharacter (alphabet_of alphabet)
plain_shape shapes.CountedInteger = plain.OfCountedInteger
plain_shape (shapes.Oid octets) = plain.OfIdentifier octets

abbrev pub plain_shapes : List Shape → List plain.Shape
plain_shapes ss = map plain_shape ss

-- the field was read at this bit of the view's storage: octets are borrowed exactly where it begins
-- an octet, and bits are a view of the same storage from this bit on
abbrev pub LiesAt : View → ℕ → Field → Type 0
LiesAt view at (fields.Octets octets) = IsBorrowed octets ↔ (at % 8 ≡ 0)
LiesAt view at (fields.Bits b) = ((view_of b).storage ≡ view.storage) × ((view_of b).first ≡ at)
LiesAt view at field = ⊤

-- the fields were read one after another from the front of the view on
pub record LieFrom (view : View) (fs : List Field) : Type 0 where
  pub each : (i : ℕ) (field : Field) (front : List Bool) → slice_get fs i ≡ Some field
      → AreSpelledBy (plain_fields (take i fs)) front → LiesAt view (view.first + length front) field

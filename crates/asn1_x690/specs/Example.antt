-- The example of X.690 8.9.3: SEQUENCE { name IA5String, ok BOOLEAN }, and its value { name "Smith", ok TRUE }.
use Rattle.std.specs.Prelude.{ℕ, Bool, true, false, List, [], ◌∷◌, None}
use Rattle.asn1_bits.specs.Bits.{bits}
use Rattle.asn1_schema.specs.declared.tables.Presence.TheVariants.{Mandatory}
use Rattle.asn1_schema.specs.declared.tables.Length.TheVariants.{AtLeast}
use Rattle.asn1_schema.specs.declared.tables.Rows.{Rows}
use Rattle.asn1_schema.specs.declared.tables.Node.{Node}
use Rattle.asn1_schema.specs.declared.tables.Node.TheVariants as type
use Rattle.asn1_schema.specs.Pieces.{Parts, Sequence, Text, Truth}
use Rattle.asn1_x690.specs.declared.tables.Class.TheVariants.{Universal}
use Rattle.asn1_x690.specs.declared.tables.Tag.{Tag}
use Rattle.asn1_x690.specs.declared.tables.CharacterSize.TheVariants.{One}
use Rattle.asn1_x690.specs.declared.tables.TypeTags.{TypeTags}
use Rattle.asn1_x690.specs.declared.tables.FirstTags.{FirstTags}
use Rattle.asn1_x690.specs.Der.{Context}

abbrev rows : ℕ → ℕ → Rows
rows from count = record { from = from; count = count }

abbrev pub example_nodes : List Node
example_nodes =
    type.Sequence (rows 0 2) false (rows 0 0) ∷ type.Text (AtLeast 0) false (rows 0 1) (rows 0 1) ∷ type.Boolean ∷ []

abbrev universal : ℕ → Tag
universal number = record { class = Universal; number = number }

-- the type of the tag of an index
abbrev of_tag : ℕ → TypeTags
of_tag i = record { tags = rows i 1; numbers = 0; characters = One; is_any = false }

abbrev first_tag : ℕ → FirstTags
first_tag i = record { tags = rows i 1; is_any = false; group = None }

-- SEQUENCE is 16, IA5String 22 and BOOLEAN 1 (X.680 8.4)
abbrev pub example_context : Context
example_context = record {
  members = record { node = 1; presence = Mandatory } ∷ record { node = 2; presence = Mandatory } ∷ [];
  ranges = record { first = 0; last = 127 } ∷ [];
  types = of_tag 0 ∷ of_tag 1 ∷ of_tag 2 ∷ [];
  firsts = first_tag 1 ∷ first_tag 2 ∷ [];
  tags = universal 16 ∷ universal 22 ∷ universal 1 ∷ [];
  numbers = [];
  defaults = λ value. None;
}

-- the numbers of "Smith"
abbrev pub smith : List ℕ
smith = 0x53 ∷ 0x6D ∷ 0x69 ∷ 0x74 ∷ 0x68 ∷ []

abbrev pub example_parts : Parts
example_parts = Sequence 2 false ∷ Text smith ∷ Truth true ∷ []

-- 30 0A, 16 05 and the name, 01 01 FF
abbrev pub example_bits : List Bool
example_bits = bits (0x30 ∷ 0x0A ∷ 0x16 ∷ 0x05 ∷ 0x53 ∷ 0x6D ∷ 0x69 ∷ 0x74 ∷ 0x68 ∷ 0x01 ∷ 0x01 ∷ 0xFF ∷ [])

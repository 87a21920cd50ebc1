-- Laws of the example, by structure.
use Rattle.std.proofs.Common.{◌≡◌, ℕ, false}
use Rattle.asn1_schema.specs.Pieces.{Absent, Sequence}
use Rattle.asn1_schema.specs.Encodings.{anywhere, number}
use Rattle.asn1_schema.specs.Fields.{raw_bits}
use Rattle.asn1_schema.specs.TypeEncodings.{header, mandatory, end_of_components}
use Rattle.asn1_schema.specs.Example.{integer, small_integer, components, example}
use Rattle.asn1_schema.specs.Laws.EncodingLaws.{number_sound}
use Rattle.asn1_schema.specs.Laws.FieldLaws.{raw_bits_sound, raw_bits_encode_one, raw_bits_size, number_encodes_one}
use Rattle.asn1_schema.specs.Laws.WritingLaws.{ArePresent}
use Rattle.asn1_schema.specs.Laws.TypeLaws.{IsGoodEverywhere, leaf_good, put_good, part_present, nothing_good}
use Rattle.asn1_schema.specs.Laws.HeaderLaws.{IsGoodAfterEverywhere, header_good}
use Rattle.asn1_schema.specs.Laws.ComponentLaws.{end_of_components_good, mandatory_good, optional_good}

alike : (x y : ℕ) → integer x ≡ integer y → x ≡ y
alike x y e = cc

differs : (x : ℕ) → integer x ≡ Absent → ⊥
differs x e = cc

small_integer_good : IsGoodEverywhere small_integer
small_integer_good =
    leaf_good (anywhere (number 3 0 1)) integer 1 (λ at. number_sound 3 0 1) (λ at. number_encodes_one {K = ℕ} 3 0 1) alike

small_integer_present : (at : ℕ) → ArePresent (small_integer at)
small_integer_present at =
    part_present (anywhere (number 3 0 1)) integer (λ x. _) 1 (λ n. number_sound 3 0 1) (λ n. number_encodes_one {K = ℕ} 3 0 1) alike
    (λ x. nothing_good) at differs

components_good : IsGoodAfterEverywhere components
components_good at =
    optional_good small_integer (mandatory small_integer (end_of_components 1 0)) small_integer_good
    (λ n. mandatory_good small_integer (end_of_components 1 0) small_integer_good (λ m. end_of_components_good 1 0 m) n) at 1 0
    (small_integer_present at)

pub example_good : IsGoodEverywhere example
example_good =
    put_good (Sequence 2 false) (header (raw_bits 1 0 0) 1 components 0) 0
    (λ at. header_good (raw_bits 1 0 0) 1 components 0 (raw_bits_sound {K = ℕ} 1 0 0) (raw_bits_encode_one {K = ℕ} 1 0 0) (raw_bits_size {K = ℕ} 1 0 0)
    components_good at)

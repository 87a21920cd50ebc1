-- Laws of the example, by structure.
use Rattle.std.proofs.Common.{◌≡◌, ℕ, Bool}
use Rattle.asn1_schema.specs.Laws.TypeLaws.{IsGoodEverywhere, leaf_good}
use Rattle.asn1_x691.specs.Fields.{constrained}
use Rattle.asn1_x691.specs.Fragments.{most_fragments}
use Rattle.asn1_x691.specs.Example.{integer, octet_integer, opened}
use Rattle.asn1_x691.specs.Laws.FieldLaws.{constrained_sound}
use Rattle.asn1_x691.specs.Laws.OneEncodingLaws.{constrained_one}
use Rattle.asn1_x691.specs.Laws.OpenTypeLaws.{open_type_good}

alike : (x y : ℕ) → integer x ≡ integer y → x ≡ y
alike x y e = cc

octet_integer_good : (aligned : Bool) → IsGoodEverywhere (octet_integer aligned)
octet_integer_good aligned =
    leaf_good (constrained aligned 255 1) integer 1 (constrained_sound aligned 255 1) (constrained_one aligned 255 1) alike

pub opened_good : (aligned : Bool) → IsGoodEverywhere (opened aligned)
opened_good aligned = open_type_good most_fragments aligned 0 (octet_integer aligned) (octet_integer_good aligned)

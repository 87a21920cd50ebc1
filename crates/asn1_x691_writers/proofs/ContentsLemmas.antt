-- Octets that are valid contents are whole.
use Rattle.std.proofs.Common.{◌≡◌, ℕ, ◌*◌, ◌%◌, List, Bool, length, ap, ◌∙◌, arith}
use Rattle.asn1_bits.specs.Bits.{bits}
use Rattle.asn1_bits.specs.Laws.DigitLaws.{length-bits}
use Rattle.asn1_x691_writers.specs.declared.contents.ContentsKind.{ContentsKind}
use Rattle.asn1_x691_writers.specs.declared.contents.ContentsKind.TheVariants.{ObjectIdentifier, RelativeIdentifier, Utf8, Real}
use Rattle.asn1_x691_writers.specs.Validity.{IsValid}

whole : (list : List Bool) (octets : List ℕ) → list ≡ bits octets → length list % 8 ≡ 0
whole list octets e = let n : length list ≡ 8 * length octets = ap length e ∙ length-bits octets in omega (arith, n)

pub valid_whole : (kind : ContentsKind) (list : List Bool) → IsValid kind list → length list % 8 ≡ 0
valid_whole ObjectIdentifier list v = whole list v.1 v.3
valid_whole RelativeIdentifier list v = whole list v.1 v.4
valid_whole Utf8 list v = whole list v.0 v.2
valid_whole Real list v = whole list v.0 v.3

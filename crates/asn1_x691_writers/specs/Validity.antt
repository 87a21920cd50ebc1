-- Which octets are contents of a kind. A list of bits is that of octets.
use Rattle.std.specs.Prelude.{Bool, List}
use Rattle.asn1_schema.specs.Reals.{IsReal}
use Rattle.asn1_x691.specs.Contents.{IsObjectIdentifier, IsRelativeIdentifier, IsUtf8Text}
use Rattle.asn1_x691_writers.specs.declared.contents.ContentsKind.{ContentsKind}
use Rattle.asn1_x691_writers.specs.declared.contents.ContentsKind.TheVariants.{ObjectIdentifier, RelativeIdentifier, Utf8, Real}

abbrev pub IsValid : ContentsKind → List Bool → Type 0
IsValid ObjectIdentifier = IsObjectIdentifier
IsValid RelativeIdentifier = IsRelativeIdentifier
IsValid Utf8 = IsUtf8Text
IsValid Real = IsReal

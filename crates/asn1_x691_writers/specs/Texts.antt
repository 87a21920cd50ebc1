-- Characters that are in an alphabet.
use Rattle.std.specs.Prelude.{ℕ, List}
use Rattle.std.specs.List.{AllByRecursion}
use Rattle.asn1_schema.specs.declared.tables.Range.{Range}
use Rattle.asn1_x691.specs.Alphabets.{IsIn}

-- each of the characters is in the alphabet of these ranges
abbrev pub AreIn : List Range → List ℕ → Type 0
AreIn ranges text = AllByRecursion (λ c. IsIn ranges c) text

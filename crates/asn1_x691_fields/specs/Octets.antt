-- Octets of a message, which begin at any bit.
use Rattle.std.specs.Prelude.{ℕ, ◌/◌, Bool, true, false, not, nat_lt, ◌&&◌, ◌==◌, if◌then◌else◌, List, [], ◌∷◌, drop}
use Rattle.asn1_schema.specs.declared.part.Span.{Span}
use Rattle.asn1_schema.specs.CharactersOfParts.{numbers_in}

abbrev pub octets_in : List Bool → Span → List ℕ
octets_in list s = numbers_in 8 (s.count / 8) (drop s.at list)

-- whether octets are subidentifiers; the first may have begun before them
abbrev pub are_series : Bool → List ℕ → Bool
are_series begun [] = not begun
are_series begun (octet ∷ octets) =
    if not begun && octet == 128 then false else (if nat_lt octet 128 then are_series false octets else are_series true octets)

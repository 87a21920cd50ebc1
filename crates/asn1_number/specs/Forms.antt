-- How an `Integer` is kept.
use Rattle.std.specs.Prelude.{◌≡◌, ◌<◌, ℤ, length, drop}
use Rattle.std.specs.List.{flat_map}
use Rattle.asn1_number.specs.declared.integer.Form.{Form}
use Rattle.asn1_number.specs.declared.integer.Form.TheVariants.{Inline, Shortest}
use Rattle.asn1_number.specs.Octets.{signed, IsShortest}

-- the number that a form holds
abbrev pub number_in : Form → ℤ
number_in (Inline start words) = signed (flat_map (λ w. w) words)
number_in (Shortest v) = signed v.items

-- a number has one form: its sixteen octets with the index where the shortest begin, or, where it
-- lies outside `i128`, its shortest ones, more than sixteen
abbrev pub IsOneForm : Form → Type 0
IsOneForm (Inline start words) =
    (length (flat_map (λ w. w) words) ≡ 16)
    × IsShortest (signed (flat_map (λ w. w) words)) (drop start (flat_map (λ w. w) words))
IsOneForm (Shortest v) = IsShortest (signed v.items) v.items × (16 < length v.items)

use Rattle.std.proofs.Common.{◌≡◌, true, ℕ, ◌<◌, get_or, map}
use Rattle.asn1_characters.specs.Sets.{base_set, has_character}
use Rattle.asn1_strings.specs.Pieces.{pieces, unsigned}
use Rattle.asn1_strings.proofs.static_permitted_alphabet.string_of_pieces.Given as goal

abbrev pub invariant-loop-i : goal.invariant-loop-i
invariant-loop-i g l =
    (k : ℕ) → k < l.i → has_character (base_set (g.S.HasCharacterSet.CHARACTER_SET_NAME))
    (get_or (map unsigned (pieces l.fn.width l.fn.octets)) k 0) ≡ true

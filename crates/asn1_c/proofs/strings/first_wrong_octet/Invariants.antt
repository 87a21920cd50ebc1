use Rattle.std.proofs.Common.{◌≡◌, ◌<◌, ℕ, true}
use Rattle.std.specs.Prelude.{slice_index}
use Rattle.asn1_characters.specs.Sets.{base_set, has_character}
use Rattle.asn1_c.proofs.strings.first_wrong_octet.Given as goal

abbrev pub invariant-loop-i : goal.invariant-loop-i
invariant-loop-i l = (j : ℕ) → j < l.i → has_character (base_set l.name) (slice_index l.octets j) ≡ true

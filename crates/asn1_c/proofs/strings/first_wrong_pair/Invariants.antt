use Rattle.std.proofs.Common.{◌≡◌, ◌<◌, ℕ, true}
use Rattle.asn1_characters.specs.Sets.{base_set, has_character}
use Rattle.asn1_characters.specs.declared.character_set.CharacterSetName.TheVariants.{Bmp}
use Rattle.asn1_c.specs.Sets.{character_at}
use Rattle.asn1_c.proofs.strings.first_wrong_pair.Given as goal

abbrev pub invariant-loop-i : goal.invariant-loop-i
invariant-loop-i l = (j : ℕ) → j < l.i → has_character (base_set Bmp) (character_at Bmp l.octets j) ≡ true

use Rattle.std.proofs.Common.{◌≡◌, ◌<◌, ℕ, true, length}
use Rattle.std.specs.Prelude.{slice_index}
use Rattle.std.specs.Str.{chars}
use Rattle.asn1_characters.specs.Sets.{base_set, has_character}
use Rattle.asn1_c.proofs.utf8_string.first_outside.Given as goal

abbrev pub invariant-loop-character : goal.invariant-loop-character
invariant-loop-character l = record {
  place : l.place ≡ length l.yielded;
  right : (j : ℕ) → j < l.place → has_character (base_set l.name) (slice_index (chars l.text) j) ≡ true;
}

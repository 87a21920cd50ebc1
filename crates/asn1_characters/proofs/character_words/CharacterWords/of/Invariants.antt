use Rattle.std.proofs.Common.{◌≡◌, ℕ, ◌<◌, take}
use Rattle.asn1_characters.specs.Sets.{has_character}
use Rattle.asn1_characters.specs.Words.{in_words}
use Rattle.asn1_characters.proofs.character_words.CharacterWords.of.Given as goal

abbrev pub invariant-loop-character : goal.invariant-loop-character
invariant-loop-character l =
    (c : ℕ) → c < 256 → in_words l.words.words c ≡ has_character (take l.character-index l.set) c

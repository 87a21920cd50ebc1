use Rattle.std.proofs.Common.{rules, ◌≡◌, ◌<◌, ℕ, Bool, true, false, refl, arith}
use Rattle.std.specs.Prelude.{◌≢◌}
use Rattle.std.proofs.lemmas.Bool.Decides.{nat_tests}
use Rattle.asn1_characters.specs.Sets.{base_set, has_character}
use Rattle.asn1_characters.specs.Laws.SetLaws.{has_in_base, not_above}
use Rattle.asn1_characters.specs.Laws.TableLaws.{largest_small}
use Rattle.asn1_characters.specs.declared.character_set.CharacterSetName.{CharacterSetName}
use Rattle.asn1_characters.specs.declared.character_set.CharacterSetName.TheVariants.{Bmp}
use Rattle.asn1_strings.proofs.key_walk.is_in.Goals as goal

-- but for `BmpString` no set has a character past one octet
past_octets : (name : CharacterSetName) (c : ℕ) → name ≢ Bmp → 255 < c → has_character (base_set name) c ≡ false
past_octets name c other high = by_case (has_character (base_set name) c) refl
  where
    by_case : (b : Bool) → has_character (base_set name) c ≡ b → b ≡ false
    by_case false e = refl
    by_case true e = absurd (omega (arith, not_above (base_set name) c e, largest_small name other))

pub returns-in-Bmp : goal.returns-in-Bmp
returns-in-Bmp c = rw (c.in-Bmp.is, has_in_base Bmp c.args.character) (grind (arith, nat_tests))

pub returns-else-character-le255 : goal.returns-else-character-le255
returns-else-character-le255 c =
    rw (past_octets c.args.name c.args.character c.in_default.not-Bmp (omega arith)) (grind (arith, nat_tests))

pub returns-then-character-le255 : goal.returns-then-character-le255
returns-then-character-le255 c = search rules

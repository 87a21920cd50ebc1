use Rattle.std.proofs.Common.{◌≡◌, ◌+◌, ◌-◌, Some, ap, ◌∙◌, arith}
use Rattle.asn1_characters.proofs.PlaceLemmas.{space_at, digit_at, numeric_lacks}
use Rattle.asn1_characters.proofs.character_set.CharacterSetName.place_of.Goals as goal

pub returns-in-32 : goal.returns-in-32
returns-in-32 c = rw (c.in-Numeric.is, c.in-32.is) space_at

pub returns-in-48-to-57 : goal.returns-in-48-to-57
returns-in-48-to-57 c =
    let same : 47 + (c.args.character - 47) ≡ c.args.character = omega arith in
    rw c.in-Numeric.is (digit_at (c.args.character - 47) (omega arith) (omega arith) ∙ ap Some same)

pub returns-in_default-character : goal.returns-in_default-character
returns-in_default-character c =
    rw c.in-Numeric.is (numeric_lacks c.args.character (λ e. omega arith) (λ low high. omega arith))

pub returns-in_default-character-2 : goal.returns-in_default-character-2
returns-in_default-character-2 c =
    rw c.in-Numeric.is (numeric_lacks c.args.character (λ e. omega arith) (λ low high. omega arith))

use Rattle.std.proofs.Common.{rules}
use Rattle.asn1_characters.proofs.character_set.CharacterSetName.ranges.Goals as goal

pub returns-in-Teletex-clause-value : goal.returns-in-Teletex-clause-value
returns-in-Teletex-clause-value c = search rules

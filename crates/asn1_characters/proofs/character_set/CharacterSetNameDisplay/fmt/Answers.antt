use Rattle.std.proofs.Common.{rules}
use Rattle.asn1_characters.proofs.character_set.CharacterSetNameDisplay.fmt.Goals as goal

pub returns-in-IA5-clause-writes : goal.returns-in-IA5-clause-writes
returns-in-IA5-clause-writes c = search rules

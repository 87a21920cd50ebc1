use Rattle.std.proofs.Common.{sym}
use Rattle.asn1_characters.specs.declared.character_set.CharacterSetName.TheVariants.{Numeric}
use Rattle.asn1_characters.proofs.SetLemmas.{indexed-base_set, not_indexed}
use Rattle.asn1_characters.proofs.character_set.CharacterSetName.is_indexed.Goals as goal

pub returns-in-Numeric : goal.returns-in-Numeric
returns-in-Numeric c = rw c.in-Numeric.is (sym (indexed-base_set Numeric))

pub returns-in_default : goal.returns-in_default
returns-in_default c = sym (not_indexed c.args.self c.in_default.not-Numeric)

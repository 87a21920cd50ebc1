use Rattle.std.proofs.Common.{refl}
use Rattle.asn1_characters.specs.Sets.{base_set}
use Rattle.asn1_characters.specs.declared.character_set.CharacterSetName.TheVariants.{IA5, Visible}
use Rattle.asn1_characters.proofs.TableLemmas.{table_lists}
use Rattle.asn1_characters.proofs.character_set.CharacterSetName.table.Goals as goal

pub returns-in-IA5-clause-lists : goal.returns-in-IA5-clause-lists
unfolding base_set
returns-in-IA5-clause-lists c = rw c.in-IA5.is (table_lists _ (base_set IA5) refl)

pub returns-in-Visible-clause-lists : goal.returns-in-Visible-clause-lists
unfolding base_set
returns-in-Visible-clause-lists c = rw c.in-Visible.is (table_lists _ (base_set Visible) refl)

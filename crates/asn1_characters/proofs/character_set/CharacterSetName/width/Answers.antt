use Rattle.std.proofs.Common.{sym}
use Rattle.asn1_characters.specs.declared.character_set.CharacterSetName.TheVariants.{Bmp, General, Graphic, IA5, Numeric, Printable, Teletex, Visible}
use Rattle.asn1_characters.proofs.SetLemmas.{width-base_set}
use Rattle.asn1_characters.proofs.character_set.CharacterSetName.width.Goals as goal

pub returns-in-Bmp-clause-value : goal.returns-in-Bmp-clause-value
returns-in-Bmp-clause-value c = rw c.in-Bmp.is (sym (width-base_set Bmp))

pub returns-in-General-clause-value : goal.returns-in-General-clause-value
returns-in-General-clause-value c = rw c.in-General.is (sym (width-base_set General))

pub returns-in-Graphic-clause-value : goal.returns-in-Graphic-clause-value
returns-in-Graphic-clause-value c = rw c.in-Graphic.is (sym (width-base_set Graphic))

pub returns-in-IA5-clause-value : goal.returns-in-IA5-clause-value
returns-in-IA5-clause-value c = rw c.in-IA5.is (sym (width-base_set IA5))

pub returns-in-Numeric-clause-value : goal.returns-in-Numeric-clause-value
returns-in-Numeric-clause-value c = rw c.in-Numeric.is (sym (width-base_set Numeric))

pub returns-in-Printable-clause-value : goal.returns-in-Printable-clause-value
returns-in-Printable-clause-value c = rw c.in-Printable.is (sym (width-base_set Printable))

pub returns-in-Teletex-clause-value : goal.returns-in-Teletex-clause-value
returns-in-Teletex-clause-value c = rw c.in-Teletex.is (sym (width-base_set Teletex))

pub returns-in-Visible-clause-value : goal.returns-in-Visible-clause-value
returns-in-Visible-clause-value c = rw c.in-Visible.is (sym (width-base_set Visible))

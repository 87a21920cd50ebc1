use Rattle.std.proofs.Common.{sym}
use Rattle.asn1_characters.specs.declared.character_set.CharacterSetName.TheVariants.{Bmp, General, Graphic, IA5, Numeric, Printable, Teletex, Visible}
use Rattle.asn1_characters.specs.Laws.TableLaws.{largest-base_set}
use Rattle.asn1_characters.proofs.character_set.CharacterSetName.largest.Goals as goal

pub returns-in-Bmp : goal.returns-in-Bmp
returns-in-Bmp c = rw c.in-Bmp.is (sym (largest-base_set Bmp))

pub returns-in-General : goal.returns-in-General
returns-in-General c = rw c.in-General.is (sym (largest-base_set General))

pub returns-in-Graphic : goal.returns-in-Graphic
returns-in-Graphic c = rw c.in-Graphic.is (sym (largest-base_set Graphic))

pub returns-in-IA5 : goal.returns-in-IA5
returns-in-IA5 c = rw c.in-IA5.is (sym (largest-base_set IA5))

pub returns-in-Numeric : goal.returns-in-Numeric
returns-in-Numeric c = rw c.in-Numeric.is (sym (largest-base_set Numeric))

pub returns-in-Printable : goal.returns-in-Printable
returns-in-Printable c = rw c.in-Printable.is (sym (largest-base_set Printable))

pub returns-in-Teletex : goal.returns-in-Teletex
returns-in-Teletex c = rw c.in-Teletex.is (sym (largest-base_set Teletex))

pub returns-in-Visible : goal.returns-in-Visible
returns-in-Visible c = rw c.in-Visible.is (sym (largest-base_set Visible))

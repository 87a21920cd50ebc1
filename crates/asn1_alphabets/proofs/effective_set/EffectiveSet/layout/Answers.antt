use Rattle.std.proofs.Common.{◌≡◌, true, refl, ap, sym, ◌∙◌, lit<}
use Rattle.std.specs.Prelude.{is_some}
use Rattle.std.specs.Option.{option_copied}
use Rattle.asn1_characters.specs.Sets.{base_set, is_listed}
use Rattle.asn1_characters.specs.declared.character_set.CharacterSetName.{CharacterSetName}
use Rattle.asn1_characters.specs.declared.character_set.CharacterSetName.TheVariants.{Bmp, General, Graphic, IA5, Numeric, Printable, Teletex, Visible}
use Rattle.asn1_alphabets.specs.AlphabetInMemory.{IsRun}
use Rattle.asn1_alphabets.proofs.effective_set.EffectiveSet.layout.Goals as goal

-- the sets that lie in memory leave no gap
ia5_run : IsRun (base_set IA5)
unfolding base_set
ia5_run = record { some = lit< tt; gapless = refl; ends = lit< tt }

visible_run : IsRun (base_set Visible)
unfolding base_set
visible_run = record { some = lit< tt; gapless = refl; ends = lit< tt }

listed_run : (name : CharacterSetName) → is_listed name ≡ true → IsRun (base_set name)
listed_run IA5 listed = ia5_run
listed_run Visible listed = visible_run
listed_run Bmp listed = cc
listed_run General listed = cc
listed_run Graphic listed = cc
listed_run Numeric listed = cc
listed_run Printable listed = cc
listed_run Teletex listed = cc

pub returns-in-Some-clause-layout : goal.returns-in-Some-clause-layout
returns-in-Some-clause-layout c =
    λ told. rw c.in-Base.is (c.table.ensures.lists c.in-Some.set.now (ap option_copied c.in-Some.is))

pub returns-in-Some-clause-gapless : goal.returns-in-Some-clause-gapless
returns-in-Some-clause-gapless c =
    λ told. rw c.in-Base.is (listed_run c.in-Base.name (sym c.table.ensures.listed ∙ ap is_some c.in-Some.is))

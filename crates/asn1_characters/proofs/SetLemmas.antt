-- The widths of the base sets, and their ranges.
use Rattle.std.proofs.Common.{◌≡◌, ℕ, ◌^◌, false, leb, refl, ap, ◌∙◌}
use Rattle.std.specs.Prelude.{◌≢◌}
use Rattle.asn1_characters.specs.Sets.{ranges_of, base_width, base_indexed}
use Rattle.asn1_characters.specs.Widths.{ceil_log2, least_from}
use Rattle.asn1_characters.specs.Laws.TableLaws.{counted, length-base_set, topmost, largest-base_set}
use Rattle.asn1_characters.specs.declared.character_set.CharacterSetName.{CharacterSetName}
use Rattle.asn1_characters.specs.declared.character_set.CharacterSetName.TheVariants.{Bmp, General, Graphic, IA5, Numeric, Printable, Teletex, Visible}

-- the width of as many characters as ranges have
width_counted : (name : CharacterSetName) → base_width name ≡ ceil_log2 (counted (ranges_of name))
width_counted name = ap ceil_log2 (length-base_set name)

-- the widths of the sets
abbrev pub width_in_table : CharacterSetName → ℕ
width_in_table Bmp = 16
width_in_table General = 8
width_in_table Graphic = 8
width_in_table IA5 = 7
width_in_table Numeric = 4
width_in_table Printable = 7
width_in_table Teletex = 8
width_in_table Visible = 7

width_computed : (name : CharacterSetName) → ceil_log2 (counted (ranges_of name)) ≡ width_in_table name
unfolding ceil_log2 least_from
width_computed Bmp = refl
width_computed General = refl
width_computed Graphic = refl
width_computed IA5 = refl
width_computed Numeric = refl
width_computed Printable = refl
width_computed Teletex = refl
width_computed Visible = refl

pub width-base_set : (name : CharacterSetName) → base_width name ≡ width_in_table name
width-base_set name = width_counted name ∙ width_computed name

-- whether the largest end of the ranges fits the width
pub indexed-base_set : (name : CharacterSetName)
    → base_indexed name ≡ leb (2 ^ width_in_table name) (topmost 0 (ranges_of name))
indexed-base_set name = rw (width-base_set name, largest-base_set name) refl

-- only `NumericString` is written by places
pub not_indexed : (name : CharacterSetName) → name ≢ Numeric → base_indexed name ≡ false
not_indexed Bmp other = indexed-base_set Bmp
not_indexed General other = indexed-base_set General
not_indexed Graphic other = indexed-base_set Graphic
not_indexed IA5 other = indexed-base_set IA5
not_indexed Numeric other = absurd (other refl)
not_indexed Printable other = indexed-base_set Printable
not_indexed Teletex other = indexed-base_set Teletex
not_indexed Visible other = indexed-base_set Visible

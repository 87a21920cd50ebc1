use Rattle.std.proofs.Common.{◌≡◌, true}
use Rattle.asn1_characters.specs.Sets.{base_set, has_character}
use Rattle.asn1_characters.specs.Laws.SetLaws.{has_in_base}
use Rattle.asn1_characters.specs.declared.character_set.CharacterSetName.{CharacterSetName}
use Rattle.asn1_characters.specs.declared.character_set.CharacterSetName.TheVariants.{Bmp, General, Graphic, IA5, Numeric, Printable, Teletex, Visible}
use Rattle.asn1_strings.proofs.key_walk.checked_character.Goals as goal

-- every set has the space
space_in : (name : CharacterSetName) → has_character (base_set name) 32 ≡ true
space_in Bmp = has_in_base Bmp 32
space_in General = has_in_base General 32
space_in Graphic = has_in_base Graphic 32
space_in IA5 = has_in_base IA5 32
space_in Numeric = has_in_base Numeric 32
space_in Printable = has_in_base Printable 32
space_in Teletex = has_in_base Teletex 32
space_in Visible = has_in_base Visible 32

pub returns-in_default-clause-held : goal.returns-in_default-clause-held
returns-in_default-clause-held g c = space_in g.S.HasCharacterSet.CHARACTER_SET_NAME

pub returns-in_default-2-clause-held : goal.returns-in_default-2-clause-held
returns-in_default-2-clause-held g c = space_in g.S.HasCharacterSet.CHARACTER_SET_NAME

-- The effective set of a value in memory.
use Rattle.std.specs.Prelude.{ℕ, List, Option, Some, None}
use Rattle.std.specs.Borrow.{Bor}
use Rattle.asn1_characters.specs.declared.character_set.CharacterSetName.{CharacterSetName}
use Rattle.asn1_alphabets.specs.AlphabetInMemory.{set_of}
use Rattle.asn1_alphabets.specs.declared.effective_set.EffectiveSet.{EffectiveSet}
use Rattle.asn1_alphabets.specs.declared.effective_set.EffectiveSet.TheVariants.{Base, Permitted}

-- the string that it is an effective set of
abbrev pub name_of : EffectiveSet → CharacterSetName
name_of (Base name) = name
name_of (Permitted name set) = name

-- the permitted set, where that is the effective one
abbrev pub permitted_of : EffectiveSet → Option (Bor (List ℕ))
permitted_of (Base name) = None
permitted_of (Permitted name set) = Some set

-- the characters of an effective set: those of the permitted set, or otherwise those of the string
abbrev pub characters_of : EffectiveSet → List ℕ
characters_of effective = set_of (name_of effective) (permitted_of effective)

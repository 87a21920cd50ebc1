use Rattle.std.proofs.Common.{◌≡◌, false, take}
use Rattle.asn1_characters.specs.Laws.SetLaws.{lies_in}
use Rattle.asn1_characters.specs.Laws.TableLaws.{counted}
use Rattle.asn1_characters.proofs.character_set.CharacterSetName.place_in_ranges.Given as goal

abbrev pub invariant-loop-range : goal.invariant-loop-range
invariant-loop-range l = (lies_in (take l.range-index l.range-items) l.character ≡ false)
    × (l.before ≡ counted (take l.range-index l.range-items))

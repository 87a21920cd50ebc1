use Rattle.std.proofs.Common.{◌≡◌, ◌+◌, take}
use Rattle.asn1_characters.specs.Laws.TableLaws.{counted}
use Rattle.asn1_characters.proofs.character_set.CharacterSetName.character_in_ranges.Given as goal

abbrev pub invariant-loop-range : goal.invariant-loop-range
invariant-loop-range l = l.place ≡ counted (take l.range-index l.range-items) + l.left

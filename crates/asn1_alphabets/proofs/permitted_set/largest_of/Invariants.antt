use Rattle.std.proofs.Common.{◌≡◌, take}
use Rattle.asn1_characters.specs.Sets.{largest}
use Rattle.asn1_alphabets.proofs.permitted_set.largest_of.Given as goal

abbrev pub invariant-loop-character : goal.invariant-loop-character
invariant-loop-character l = l.most ≡ largest (take l.character-index l.set)

use Rattle.asn1_bits.specs.Bits.{bits}
use Rattle.asn1_schema.specs.CharactersOfParts.{characters_of}
use Rattle.asn1_x690_writers.specs.TextSteps.{IsTextUnderway}
use Rattle.asn1_x690_writers.proofs.texts.put_each_character.Given as goal

abbrev pub invariant-loop-left : goal.invariant-loop-left
invariant-loop-left l =
    IsTextUnderway l.width (characters_of l.table (bits l.source) l.initial.left) l.initial.octets l.at l.octets l.next
    (characters_of l.table (bits l.source) l.left)

abbrev pub decreases-loop-left : goal.decreases-loop-left
decreases-loop-left l = l.left.count

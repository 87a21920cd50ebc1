use Rattle.asn1_bits.specs.Bits.{bits}
use Rattle.asn1_x691_writers.proofs.CharacterLemmas.{IsUnderway}
use Rattle.asn1_x691_writers.proofs.characters.put_each.Given as goal

abbrev pub invariant-loop-left : goal.invariant-loop-left
invariant-loop-left l =
    IsUnderway l.alphabet l.table (bits l.source) l.initial.left l.initial.octets l.at l.octets l.next l.left

abbrev pub decreases-loop-left : goal.decreases-loop-left
decreases-loop-left l = l.left.count

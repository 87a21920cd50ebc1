use Rattle.asn1_bits.specs.Bits.{bits}
use Rattle.asn1_x691_writers.proofs.FragmentLemmas.{IsFragmented}
use Rattle.asn1_x691_writers.proofs.strings.put_fragments.Given as goal

abbrev pub invariant-loop-left : goal.invariant-loop-left
invariant-loop-left l =
    IsFragmented l.is_aligned l.unit (bits l.source) l.initial.octets l.at l.from l.count l.octets l.next l.first l.left

abbrev pub decreases-loop-left : goal.decreases-loop-left
decreases-loop-left l = l.left

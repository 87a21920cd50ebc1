use Rattle.asn1_bits.specs.Bits.{bits}
use Rattle.asn1_x691_writers.specs.Joined.{bits_in}
use Rattle.asn1_x691_writers.proofs.FragmentLemmas.{IsFragmented}
use Rattle.asn1_x691_writers.proofs.joined_strings.put_joined_units.Given as goal

abbrev pub invariant-loop-left : goal.invariant-loop-left
invariant-loop-left l =
    IsFragmented l.is_aligned l.joined.unit (bits_in (bits l.source) l.joined) l.initial.octets l.at 0 l.count l.octets l.next l.first l.left

abbrev pub decreases-loop-left : goal.decreases-loop-left
decreases-loop-left l = l.left

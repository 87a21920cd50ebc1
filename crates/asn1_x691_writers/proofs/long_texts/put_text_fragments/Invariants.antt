use Rattle.asn1_bits.specs.Bits.{bits}
use Rattle.asn1_x691_writers.proofs.TextLemmas.{AreFragmented}
use Rattle.asn1_x691_writers.proofs.long_texts.put_text_fragments.Given as goal

abbrev pub invariant-loop-left : goal.invariant-loop-left
invariant-loop-left l =
    AreFragmented l.alphabet l.table (bits l.source) l.initial.left l.initial.octets l.at l.octets l.next l.left

abbrev pub decreases-loop-left : goal.decreases-loop-left
decreases-loop-left l = l.left.count

use Rattle.std.proofs.Common.{◌≡◌}
use Rattle.asn1_bits.proofs.ReadWideLemmas.{gathered}
use Rattle.asn1_bits.proofs.reads.read_octets.Given as goal

abbrev pub invariant-loop-k : goal.invariant-loop-k
invariant-loop-k l = l.value ≡ gathered l.octets l.shift l.k

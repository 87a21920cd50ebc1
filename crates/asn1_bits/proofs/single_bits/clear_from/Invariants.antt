use Rattle.std.proofs.Common.{◌≡◌, ◌+◌, ◌++◌, take, drop, replicate, false}
use Rattle.asn1_bits.specs.Bits.{bits}
use Rattle.asn1_bits.proofs.single_bits.clear_from.Given as goal

abbrev pub invariant-loop-k : goal.invariant-loop-k
invariant-loop-k l =
    bits l.octets ≡ (take l.from (bits l.initial.octets) ++ replicate l.k false) ++ drop (l.from + l.k)
    (bits l.initial.octets)

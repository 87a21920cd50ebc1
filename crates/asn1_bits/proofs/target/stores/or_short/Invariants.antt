use Rattle.std.proofs.Common.{◌≡◌, ◌*◌, take}
use Rattle.asn1_bits.specs.Bits.{bits, ored}
use Rattle.asn1_bits.proofs.target.stores.or_short.Given as goal

abbrev pub invariant-loop-k : goal.invariant-loop-k
invariant-loop-k l = bits l.dst ≡ ored (bits l.initial.dst) (8 * l.first) (take (8 * l.k) (bits l.octets))

use Rattle.std.proofs.Common.{◌≡◌, ◌*◌, take}
use Rattle.asn1_bits.specs.BitStr.{bits_of}
use Rattle.asn1_bits.proofs.bit_str.BitStr.cmp_words.Given as goal

-- the words before are the same
abbrev pub invariant-loop-k : goal.invariant-loop-k
invariant-loop-k l = take (64 * l.k) (bits_of l.self) ≡ take (64 * l.k) (bits_of l.other)

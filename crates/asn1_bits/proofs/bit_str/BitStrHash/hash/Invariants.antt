use Rattle.std.proofs.Common.{◌≡◌, ◌++◌}
use Rattle.std.specs.List.{fold}
use Rattle.std.specs.Hash as fed
use Rattle.asn1_bits.specs.BitLists.{words_fed}
use Rattle.asn1_bits.specs.BitStr.{bits_of}
use Rattle.asn1_bits.proofs.bit_str.BitStrHash.hash.Given as goal

-- the length and the words so far were fed
abbrev pub invariant-loop-k : goal.invariant-loop-k
invariant-loop-k g l =
    l.state ≡ fold g.H.Hasher.write l.fn.state (fed.usize l.self.len ++ words_fed (bits_of l.self) l.k)

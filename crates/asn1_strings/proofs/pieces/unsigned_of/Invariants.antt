use Rattle.std.proofs.Common.{◌≡◌, ◌<◌, ◌^◌, ◌*◌, take}
use Rattle.asn1_strings.proofs.PieceLemmas.{gathered}
use Rattle.asn1_strings.proofs.pieces.unsigned_of.Given as goal

abbrev pub invariant-loop-octet : goal.invariant-loop-octet
invariant-loop-octet l = (l.n ≡ gathered (take l.octet-index l.octets)) × (l.n < 2 ^ (8 * l.octet-index))

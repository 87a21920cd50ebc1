use Rattle.std.proofs.Common.{◌≡◌, take, map}
use Rattle.std.specs.Int.{w16, from_be_bytes}
use Rattle.asn1_characters.specs.Sets.{largest}
use Rattle.asn1_strings.proofs.code_unit.largest_pair.Given as goal

abbrev pub invariant-loop-pair : goal.invariant-loop-pair
invariant-loop-pair l = l.most ≡ largest (map (from_be_bytes w16) (take l.pair-index l.pairs))

use Rattle.std.proofs.Common.{◌≡◌, take, map}
use Rattle.asn1_characters.specs.Sets.{largest}
use Rattle.asn1_strings.proofs.OctetLemmas.{distance_from}
use Rattle.asn1_strings.proofs.code_unit.lie_between.Given as goal

abbrev pub invariant-loop-octet : goal.invariant-loop-octet
invariant-loop-octet l = l.most ≡ largest (map (distance_from l.first) (take l.octet-index l.octets))

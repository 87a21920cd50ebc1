use Rattle.std.proofs.Common.{◌≡◌, ◌+◌, take}
use Rattle.asn1_number.specs.Octets.{signed}
use Rattle.asn1_number.proofs.values.signed_by_octets.Given as goal

abbrev pub invariant-loop-octet : goal.invariant-loop-octet
invariant-loop-octet l = l.value ≡ signed (take (l.octet-index + 1) l.octets)
